-- An append to a well-formed store: its answer, and what it leaves.
use Prim.Native.Nat.{ℕ, zero, suc, ◌+◌, ◌<◌, ◌≤◌}
use mathlib.Core.List.{List, [], ◌∷◌}
use mathlib.Core.Bool.{true, ◌&&◌, ◌||◌}
use mathlib.Core.Path.{◌≡◌, sym, ap, ◌∙◌, subst}
use mathlib.Core.Logic.{◌≢◌, ◌⊎◌, ⊎_elim}
use native.Mathlib.Omega.{arith}
use lib.ListN.{length}
use lib.Dec.{ltb, eqb}
use borrow.Author.Tests.{ltb-false, ne_eqb, lt-ltb}
use Rattle.model.specs.Words.{Shape, root, free_head, free_count, height, row_limit, max_height}
use Rattle.model.specs.Tree.{Limit, Open, Level}
use Rattle.model.specs.Reading.{leaf}
use Rattle.model.specs.Refusals.{Answer, result, refused, Outcome}
use Rattle.model.specs.Append.{append_start, Room, room, chain_sound, append_at, append_to, insert_row_page}
use Rattle.model.proofs.Tests.{by_test}
use Rattle.model.proofs.Frame.{occ_nil}
use Rattle.law_formed.specs.Formed.{Whole, blank, held, tree_of, Formed}
use Rattle.law_formed.proofs.Clean.{well-sound}
use Rattle.law_formed.proofs.Bridge.{root_is, formed-root}
use Rattle.law_formed.proofs.Opens.{formed-header}
use Rattle.law_append.specs.Needed.{needed_from, needed}
use Rattle.law_append.specs.Inserted.{end_row, wanted, verdict, Passes, told, Appended}
use Rattle.law_append.proofs.Right.{right_at}
use Rattle.law_append.proofs.Edge.{needed-from}
use Rattle.law_append.proofs.Ends.{start-ends}
use Rattle.law_append.proofs.Taken.{chain-passes}
use Rattle.law_append.proofs.Keeps.{at_most, spot, blank-spot, append-keeps}
use Rattle.law_append.proofs.Opened.{root-leaf}
use Rattle.law_append.proofs.Verdict.{ruled, accepted, refusals, verdict-five, verdict-fine, told-words, told-answer}

-- where the chain is sound, an append to leaf l is told by its verdict
to_leaf : (C : Shape) (P : ℕ) (w : List ℕ) (n k x l : ℕ) (b : Limit) → ((room C w n).needed ≤ free_count w → chain_sound C P w (free_head w) [] (room C w n).needed ≡ true)
    → append_to C P w n k x (leaf l b)
    ≡ told w (append_at C w n (append_start C w l) (append_start C w l + k) x (room C w n)) (verdict k (append_start C w l) (height C w n) (room C w n).needed (free_count w))
unfolding append_to verdict told
to_leaf C P w n k x l b c =
    let s = append_start C w l in
    let o = room C w n in
    by_test (eqb k 0 || ltb row_limit (s + k)) (λ t. rw t)
    (λ t. by_test (ltb (height C w n) o.needed && eqb (height C w n) max_height) (λ u. rw (t, u))
    (λ u. by_test (ltb (free_count w) o.needed) (λ v. rw (t, u, v))
    (λ v. rw (t, u, v, c (ltb-false (free_count w) o.needed v)))))

empty_needed : (C : Shape) (h : ℕ) (t : Level (suc h)) → h ≡ 0 → t.pairs ≡ [] → 0 < C.cap → needed C h t ≡ 0
unfolding needed needed_from
empty_needed C zero t e z c = rw (z, lt-ltb 0 C.cap c)
empty_needed C (suc h) t e z c = absurd (omega arith)

module _ (C : Shape) (P : ℕ) (w : List ℕ) (h r : ℕ) (ns : List ℕ) (F : Formed C P w h r ns) where
  spot-needed : Whole C P h (tree_of C w h) r → (spot C w h).needed ≡ wanted C w h
  unfolding needed
  spot-needed (held g) = sym (needed-from C P w h (root w) r Open (well-sound C P (suc h) (tree_of C w h) r Open g) (record { node = root w; needed = h + 2 }))
  spot-needed (blank b) =
      ap (λ (o : Room). o.needed) (blank-spot C P w h r ns F b) ∙ sym (empty_needed C h (tree_of C w h) b.leaf b.none (omega (arith, F.header.cap-low)))

  room-spot : room C w (root w) ≡ spot C w h
  unfolding room
  room-spot = rw (root_is C P w h r F.whole).tall

  chain_ok : (room C w (root w)).needed ≤ free_count w → chain_sound C P w (free_head w) [] (room C w (root w)).needed ≡ true
  chain_ok l =
      chain-passes C P w (room C w (root w)).needed (free_head w) [] ns (omega (arith, F.free)) F.chain (λ m. omega (arith, F.cover m, at_most (ltb m P), occ_nil m))

  -- the words of an accepted append
  made : ℕ → ℕ → List ℕ
  made k x = append_at C w (root w) (end_row C w h r) (end_row C w h r + k) x (spot C w h)

  insert_told : (k x : ℕ) → insert_row_page C.slots w k x ≡ told w (made k x) (verdict k (end_row C w h r) h (wanted C w h) (length ns))
  unfolding insert_row_page made
  insert_told k x =
      let l = right_at C w h (root w) in
      let n = root w in
      let W = F.whole in
      let s : append_start C w l ≡ end_row C w h r = start-ends C P w h r W in
      rw (formed-header C P w h r ns F, F.capacity-is, F.pool-is, ne_eqb (root w) P (omega (arith, (formed-root C P w h r ns F).inside)), root-leaf C P w h r F.high W)
      (to_leaf C P w n k x l Open chain_ok
      ∙ ap (λ (z : ℕ). told w (append_at C w n z (z + k) x (room C w n)) (verdict k z (height C w n) (room C w n).needed (free_count w))) s
      ∙ ap (λ (z : Room). told w (append_at C w n (end_row C w h r) (end_row C w h r + k) x z) (verdict k (end_row C w h r) (height C w n) z.needed (free_count w))) room-spot
      ∙ ap (λ (z : ℕ). told w (made k x) (verdict k (end_row C w h r) z (spot C w h).needed (free_count w))) (root_is C P w h r W).tall
      ∙ ap (λ (z : ℕ). told w (made k x) (verdict k (end_row C w h r) h z (free_count w))) (spot-needed W)
      ∙ ap (λ (z : ℕ). told w (made k x) (verdict k (end_row C w h r) h (wanted C w h) z)) F.free)

  -- the answer, and that a refusal changes nothing
  pub insert_answer : (k x : ℕ) → insert_row_page C.slots w k x ≡ told w (insert_row_page C.slots w k x).words (verdict k (end_row C w h r) h (wanted C w h) (length ns))
  insert_answer k x = told-words w (made k x) (verdict k (end_row C w h r) h (wanted C w h) (length ns)) (insert_row_page C.slots w k x) (insert_told k x)

  pub insert_verdict : (k x : ℕ) → (insert_row_page C.slots w k x).answer ≡ verdict k (end_row C w h r) h (wanted C w h) (length ns)
  insert_verdict k x = ap (λ (o : Outcome). o.answer) (insert_told k x) ∙ told-answer w (made k x) (verdict k (end_row C w h r) h (wanted C w h) (length ns))

  -- what an accepted append leaves
  pub insert_keeps : (k x : ℕ) (l : List ℕ) → (insert_row_page C.slots w k x).answer ≡ result l
      → Appended C P w (insert_row_page C.slots w k x).words h r (wanted C w h) (end_row C w h r) (end_row C w h r + k) x ns
  unfolding made told
  insert_keeps k x l e =
      let s = end_row C w h r in
      let n = wanted C w h in
      let a = sym (insert_verdict k x) ∙ e in
      let z = accepted k s h n (length ns) (verdict k s h n (length ns)) (ruled k s h n (length ns)) l a in
      let i : (spot C w h).needed ≡ n = spot-needed F.whole in
      let words : (insert_row_page C.slots w k x).words ≡ made k x = ap (λ (o : Outcome). o.words) (insert_told k x) ∙ ap (λ (y : Answer). (told w (made k x) y).words) a in
      rw words
      (subst (λ (j : ℕ). Appended C P w (made k x) h r j s (s + k) x ns) i
      (append-keeps C P w h r ns F s (s + k) x (sym (start-ends C P w h r F.whole)) (omega (arith, z.0.some)) z.0.most (omega (arith, z.1))
      (λ q. omega (arith, z.0.low (omega arith), F.high))))

  -- a refusal is 4, 6 or 5
  insert_refusals : (k x c d : ℕ) → (insert_row_page C.slots w k x).answer ≡ refused c d
      → (c ≡ 4) ⊎ ((c ≡ 6) ⊎ ((c ≡ 5) × (d ≡ wanted C w h) × Passes k (end_row C w h r) h (wanted C w h) × (length ns < wanted C w h)))
  insert_refusals k x c d e =
      let s = end_row C w h r in
      let n = wanted C w h in
      refusals k s h n (length ns) (verdict k s h n (length ns)) (ruled k s h n (length ns)) c d (sym (insert_verdict k x) ∙ e)

  -- neither unsound nor closed
  pub insert_never : (k x d : ℕ) → ((insert_row_page C.slots w k x).answer ≢ refused 2 d) × ((insert_row_page C.slots w k x).answer ≢ refused 3 d)
  insert_never k x d = (
    λ e. ⊎_elim (λ a. omega arith) (λ y. ⊎_elim (λ a. omega arith) (λ z. omega (arith, z.0)) y) (insert_refusals k x 2 d e),
    λ e. ⊎_elim (λ a. omega arith) (λ y. ⊎_elim (λ a. omega arith) (λ z. omega (arith, z.0)) y) (insert_refusals k x 3 d e),
  )

  -- accepted where there is room, and else 5, and 5 only there
  pub insert_room : (k x : ℕ) → Passes k (end_row C w h r) h (wanted C w h) → wanted C w h ≤ length ns
      → (insert_row_page C.slots w k x).answer ≡ result (end_row C w h r ∷ (end_row C w h r + k) ∷ wanted C w h ∷ [])
  insert_room k x p l = insert_verdict k x ∙ verdict-fine k (end_row C w h r) h (wanted C w h) (length ns) p l

  pub insert_no_room : (k x : ℕ) → Passes k (end_row C w h r) h (wanted C w h) → length ns < wanted C w h → (insert_row_page C.slots w k x).answer ≡ refused 5 (wanted C w h)
  insert_no_room k x p l = insert_verdict k x ∙ verdict-five k (end_row C w h r) h (wanted C w h) (length ns) p l

  pub insert_no_room_only : (k x d : ℕ) → (insert_row_page C.slots w k x).answer ≡ refused 5 d
      → (d ≡ wanted C w h) × Passes k (end_row C w h r) h (wanted C w h) × (length ns < wanted C w h)
  insert_no_room_only k x d e =
      ⊎_elim (λ a. absurd (omega arith)) (λ y. ⊎_elim (λ a. absurd (omega arith)) (λ z. (z.1, z.2, z.3)) y) (insert_refusals k x 5 d e)
