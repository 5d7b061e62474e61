-- Next on a store that holds a ledger: 13, none if done, or a leaf.
use Prim.Native.Nat.{ℕ, zero, suc, ◌+◌, ◌<◌, ◌≤◌}
use mathlib.Core.List.{List, [], ◌∷◌, ◌++◌, map}
use mathlib.Core.Bool.{true, false}
use mathlib.Core.Path.{◌≡◌, refl, ap, ◌∙◌}
use mathlib.Core.Logic.{◌⊎◌, inl, inr}
use native.Mathlib.Omega.{arith}
use lib.ListN.{length, drop}
use lib.Dec.{ltb}
use borrow.Author.Tests.{le-ltb, lt-ltb, ltb-true, ltb-false}
use Rattle.model.specs.Words.{store_shape, lent, Shape, fill, count, end, row, child}
use Rattle.model.specs.Tree.{pairs_from}
use Rattle.model.specs.Reading.{leaf}
use Rattle.model.specs.Refusals.{Answer, result, refused}
use Rattle.model.specs.Ledger.{Ledger, end_from, walk_from}
use Rattle.model.specs.LeafWalk.{Stepped, cursor_at, page_entry, records, is_last, given, next_leaf_of}
use Rattle.model.specs.declared.node.PageEntry.{PageEntry}
use Rattle.model.specs.declared.cursor.RowPageIndexMemCursor.{RowPageIndexMemCursor}
use Rattle.model.proofs.Tests.{by_test}
use Rattle.law_formed.specs.Holds.{Holds}
use Rattle.law_formed.proofs.Opens.{goes_on}
use Rattle.model.proofs.Fill.{fill_is}
use Rattle.next_records.proofs.Filling.{length-records}
use Rattle.law_history.specs.Calls.{Loan, with_cursor, with_records, Reply, next_leaf, reply}
use Rattle.law_history.specs.Laws.{leaf_end, GivesLeaf, NextLaw}
use Rattle.law_history.proofs.Leaves.{Spot, spot}

abbrev entry_of : ℕ × ℕ → PageEntry
entry_of p = page_entry p.0 p.1

records-are : (C : Shape) (w : List ℕ) (n i k : ℕ) → records C w n i k ≡ map entry_of (pairs_from C w (λ (x : ℕ). x) n i k)
unfolding records pairs_from
records-are C w n i zero = refl
records-are C w n i (suc k) = ap (λ (t : List PageEntry). page_entry (row C w n i) (child C w n i) ∷ t) (records-are C w n (i + 1) k)

module _ (w : List ℕ) (l : Ledger) (H : Holds lent w l) (m : Loan) where
  abbrev C : Shape
  C = store_shape lent w

  abbrev c : RowPageIndexMemCursor
  c = m.cursor

  abbrev x : List PageEntry
  x = m.records

  abbrev still : Answer → Stepped
  still a = record { answer = a; cursor = c; list = x }

  pub next-short : length x < C.cap → next_leaf_of lent w c x ≡ still (refused 13 C.cap)
  unfolding next_leaf_of
  next-short h = goes_on lent w H.formed still _ ∙ rw (lt-ltb (length x) C.cap h)

  pub next-none : C.cap ≤ length x → c.done ≡ true → next_leaf_of lent w c x ≡ still (result [])
  unfolding next_leaf_of
  next-none h d = goes_on lent w H.formed still _ ∙ rw (le-ltb (length x) C.cap h, d)

  pub next-leaf : C.cap ≤ length x → c.done ≡ false → (S : Spot w l c.row_id.0) → next_leaf_of lent w c x ≡ given C w c x (leaf S.n S.b)
  unfolding next_leaf_of
  next-leaf h d S = (goes_on lent w H.formed still _ ∙ rw (le-ltb (length x) C.cap h, d)) ∙ ap (given C w c x) S.reached

  -- what stands in the list afterwards
  listed : (n : ℕ) (ps : List (ℕ × ℕ)) → count C w n ≤ length x → pairs_from C w (λ (y : ℕ). y) n 0 (count C w n) ≡ ps → fill x 0 (records C w n 0 (count C w n)) ≡ map entry_of ps ++ drop (count C w n) x
  listed n ps h e =
      let k = count C w n in
      fill_is x (records C w n 0 k) (omega (arith, length-records C w n 0 k))
      ∙ ap (λ (j : ℕ). records C w n 0 k ++ drop j x) (length-records C w n 0 k)
      ∙ ap (λ (t : List PageEntry). t ++ drop k x) (records-are C w n 0 k ∙ ap (map entry_of) e)

  pub gives-leaf : C.cap ≤ length x → c.done ≡ false → GivesLeaf l m (reply w m next_leaf)
  unfolding reply given
  gives-leaf h d =
      let S = spot w l H c.row_id.0 in
      let n = S.n in
      let s = end_from l.start S.before in
      let o : next_leaf_of lent w c x ≡ given C w c x (leaf n S.b) = next-leaf h d S in
      record {
        before = S.before;
        those = S.those;
        rest = S.rest;
        is = S.is;
        s = s;
        begins = refl;
        answer =
            ap (λ (r : Stepped). r.answer) o
            ∙ ap (λ (k : ℕ). result (k ∷ end C w n ∷ count C w n ∷ [])) S.begins-at
            ∙ ap (λ (k : ℕ). result (s ∷ k ∷ count C w n ∷ [])) S.ends_at
            ∙ ap (λ (k : ℕ). result (s ∷ leaf_end s S.those ∷ k ∷ [])) S.many;
        cursor = ap (λ (r : Stepped). r.cursor) o ∙ ap (λ (k : ℕ). cursor_at k (is_last S.b)) S.ends_at ∙ ap (cursor_at (leaf_end s S.those)) S.over;
        records =
            ap (λ (r : Stepped). r.list) o
            ∙ listed n (walk_from s S.those) (omega (arith, S.few)) S.pairs
            ∙ ap (λ (k : ℕ). map entry_of (walk_from s S.those) ++ drop k x) S.many;
        low = S.low;
        high = S.high;
        some = S.some;
      }

  abbrev as_reply : Stepped → Reply
  as_reply o = record { answer = o.answer; words = w; loan = with_records (with_cursor m o.cursor) o.list }

  pub next_law : NextLaw w l m (reply w m next_leaf)
  unfolding reply
  next_law =
      record {
        short = λ h. ap (λ (r : Stepped). r.answer) (next-short h);
        none = λ h d. ap as_reply (next-none h d);
        gives = gives-leaf;
      }

  -- 13, or accepted
  pub next-decide : (reply w m next_leaf ≡ record { answer = refused 13 C.cap; words = w; loan = m }) ⊎ ((v : List ℕ) × ((reply w m next_leaf).answer ≡ result v))
  unfolding reply
  next-decide =
      by_test (ltb (length x) C.cap)
      (λ t. inl (ap as_reply (next-short (ltb-true (length x) C.cap t))))
      (λ t. by_test c.done
      (λ d. inr ([], ap (λ (r : Stepped). r.answer) (next-none (ltb-false (length x) C.cap t) d)))
      (λ d. inr (_, (gives-leaf (ltb-false (length x) C.cap t) d).answer)))
