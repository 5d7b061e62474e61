-- A walk among other calls that leave the store as it is, with any lists, is the walk with one list and none between.
use Prim.Native.Nat.{ℕ, suc, ◌≤◌}
use mathlib.Core.List.{List, [], ◌∷◌, ◌++◌}
use mathlib.Core.Bool.{false}
use mathlib.Core.Path.{◌≡◌, sym, ap, ◌∙◌, subst}
use native.Mathlib.Omega.{arith}
use lib.ListN.{length}
use lib.Dec.{ltb}
use borrow.Author.Tests.{ltb-true, ltb-false}
use Rattle.model.specs.Words.{store_shape, lent, fill, capacity, count}
use Rattle.model.specs.Tree.{pairs_from}
use Rattle.model.specs.Reading.{leaf}
use Rattle.model.specs.Refusals.{result, refused}
use Rattle.model.specs.Ledger.{Ledger}
use Rattle.model.specs.LeafWalk.{Stepped, records, given, next_leaf_of}
use Rattle.model.specs.declared.node.PageEntry.{PageEntry}
use Rattle.model.specs.declared.cursor.RowPageIndexMemCursor.{RowPageIndexMemCursor}
use Rattle.model.proofs.Tests.{by_test}
use Rattle.law_formed.specs.Holds.{Holds}
use Rattle.model.proofs.Fill.{length-fill}
use Rattle.law_walk.specs.Walking.{first_pairs, Gives, one, ended}
use Rattle.law_walk.proofs.Walk.{read, none-some, third}
use Rattle.law_history.specs.Calls.{Loan, no_loan, with_cursor, with_records, reply, History}
use Rattle.law_history.specs.Laws.{Walks, between, gave, over}
use Rattle.law_history.proofs.Leaves.{spot}
use Rattle.law_history.proofs.Next.{next-short, next-none, next-leaf, gives-leaf}

pub result-not : (v : List ℕ) (a d : ℕ) → result v ≡ refused a d → ⊥
result-not v a d e = let z : ◌≡◌ {A = ℕ} 0 1 = cc in absurd (omega arith)

module _ (w : List ℕ) (l : Ledger) (H : Holds lent w l) where
  -- a step's answer, cursor and records are the same with any list that is long enough
  record Alike (c : RowPageIndexMemCursor) (y x : List PageEntry) (s e k : ℕ) : Type 0 where
    answer : (next_leaf_of lent w c x).answer ≡ result (s ∷ e ∷ k ∷ [])
    cursor : (next_leaf_of lent w c x).cursor ≡ (next_leaf_of lent w c y).cursor
    pairs : first_pairs k (next_leaf_of lent w c x).list ≡ first_pairs k (next_leaf_of lent w c y).list
    long : length (next_leaf_of lent w c x).list ≡ length x

  abbrev lent_with : RowPageIndexMemCursor → List PageEntry → Loan
  lent_with c x = with_records (with_cursor no_loan c) x

  both_give : (c : RowPageIndexMemCursor) (y x : List PageEntry) (s e k : ℕ) → c.done ≡ false → capacity w ≤ length y → capacity w ≤ length x → (next_leaf_of lent w c y).answer ≡ result (s ∷ e ∷ k ∷ []) → Alike c y x s e k
  unfolding given
  both_give c y x s e k d hy hx a =
      let C = store_shape lent w in
      let S = spot w l H c.row_id.0 in
      let n = S.n in
      let oy : next_leaf_of lent w c y ≡ given C w c y (leaf n S.b) = next-leaf w l H (lent_with c y) hy d S in
      let ox : next_leaf_of lent w c x ≡ given C w c x (leaf n S.b) = next-leaf w l H (lent_with c x) hx d S in
      let k-is : count C w n ≡ k = third (sym (ap (λ (r : Stepped). r.answer) oy) ∙ a) in
      let got : (z : List PageEntry) → C.cap ≤ length z → next_leaf_of lent w c z ≡ given C w c z (leaf n S.b) → first_pairs k (next_leaf_of lent w c z).list ≡ pairs_from C w (λ (v : ℕ). v) n 0 (count C w n) =
      λ z hz oz. ap (λ (r : Stepped). first_pairs k r.list) oz ∙ ap (λ (j : ℕ). first_pairs j (fill z 0 (records C w n 0 (count C w n)))) (sym k-is) ∙ read C w n (count C w n) z (omega (arith, S.few)) in
      record {
        answer = ap (λ (r : Stepped). r.answer) ox ∙ sym (ap (λ (r : Stepped). r.answer) oy) ∙ a;
        cursor = ap (λ (r : Stepped). r.cursor) ox ∙ sym (ap (λ (r : Stepped). r.cursor) oy);
        pairs = got x hx ox ∙ sym (got y hy oy);
        long = ap (λ (r : Stepped). length r.list) ox ∙ length-fill x 0 (records C w n 0 (count C w n));
      }

  -- a step that is not refused had a list that is long enough
  long-enough : (c : RowPageIndexMemCursor) (y : List PageEntry) (v : List ℕ) → (next_leaf_of lent w c y).answer ≡ result v → capacity w ≤ length y
  long-enough c y v a =
      by_test (ltb (length y) (capacity w))
      (λ t. let z = sym a ∙ ap (λ (r : Stepped). r.answer) (next-short w l H (lent_with c y) (ltb-true (length y) (capacity w) t)) in absurd (result-not v 13 (capacity w) z))
      (λ t. ltb-false (length y) (capacity w) t)

  alike : (c : RowPageIndexMemCursor) (y x : List PageEntry) (s e k : ℕ) → capacity w ≤ length x → (next_leaf_of lent w c y).answer ≡ result (s ∷ e ∷ k ∷ []) → Alike c y x s e k
  alike c y x s e k hx a =
      let hy = long-enough c y (s ∷ e ∷ k ∷ []) a in
      by_test c.done
      (λ d. absurd (none-some (sym (ap (λ (r : Stepped). r.answer) (next-none w l H (lent_with c y) hy d)) ∙ a)))
      (λ d. both_give c y x s e k d hy hx a)

  -- no step after the last
  none_left : (c : RowPageIndexMemCursor) (y x : List PageEntry) → capacity w ≤ length x → (next_leaf_of lent w c y).answer ≡ result [] → next_leaf_of lent w c x ≡ record { answer = result []; cursor = c; list = x }
  unfolding reply
  none_left c y x hx a =
      let hy = long-enough c y [] a in
      by_test c.done
      (λ d. next-none w l H (lent_with c x) hx d)
      (λ d. absurd (none-some (sym a ∙ (gives-leaf w l H (lent_with c y) hy d).answer)))

  pub walk-among : (c : RowPageIndexMemCursor) (cs : History) (ps : List (ℕ × ℕ)) (n : ℕ) → Walks w c cs ps n → (x : List PageEntry) → capacity w ≤ length x → Gives w c x ps n
  unfolding reply
  walk-among c _ ps n (between _ m b cs _ _ e g) x room = walk-among c cs ps n g x room
  walk-among c _ _ _ (gave _ m cs s e k ps n i a g) x room =
      let y = m.records in
      let A = alike c y x s e k room (ap (λ (d : RowPageIndexMemCursor). (next_leaf_of lent w d y).answer) (sym i) ∙ a) in
      let at : next_leaf_of lent w m.cursor y ≡ next_leaf_of lent w c y = ap (λ (d : RowPageIndexMemCursor). next_leaf_of lent w d y) i in
      let rest = walk-among (next_leaf_of lent w m.cursor y).cursor cs ps n g (next_leaf_of lent w c x).list (omega (arith, A.long)) in
      let k-pairs : first_pairs k (next_leaf_of lent w c x).list ≡ first_pairs k (next_leaf_of lent w m.cursor y).list = A.pairs ∙ ap (λ (r : Stepped). first_pairs k r.list) (sym at) in
      let from : (next_leaf_of lent w m.cursor y).cursor ≡ (next_leaf_of lent w c x).cursor = ap (λ (r : Stepped). r.cursor) at ∙ sym A.cursor in
      subst (λ (t : List (ℕ × ℕ)). Gives w c x (t ++ ps) (suc n)) k-pairs
      (one c x s e k ps n A.answer (subst (λ (d : RowPageIndexMemCursor). Gives w d (next_leaf_of lent w c x).list ps n) from rest))
  walk-among c _ _ _ (over _ m cs i a) x room =
      ended c x (none_left c m.records x room (ap (λ (d : RowPageIndexMemCursor). (next_leaf_of lent w d m.records).answer) (sym i) ∙ a))
