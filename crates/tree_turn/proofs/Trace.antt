-- A reading goes on: one visit more was seen.
use Prim.Native.Nat.{ℕ, ◌+◌, ◌<◌}
use mathlib.Core.List.{List, [], ◌∷◌, ◌++◌, append_assoc}
use mathlib.Core.Bool.{false}
use mathlib.Core.Path.{◌≡◌, sym, ap, ◌∙◌, subst}
use native.Mathlib.Omega.{arith}
use lib.ListN.{length}
use lib.Dec.{T}
use Rattle.model.specs.Words.{Shape, height}
use Rattle.model.specs.Reading.{Visit, Enter, Leave, occ}
use Rattle.model.specs.Paths.{stack, trail, last_of, above, entered, rooted, popped, entered_path}
use Rattle.model.specs.declared.path.Position.{Position}
use Rattle.model.specs.declared.path.Path.{Path}
use Rattle.model.proofs.Tests.{both}
use Rattle.model.proofs.Paths.{stack_pop}
use Rattle.model.proofs.Frame.{occ-append, occ_nil}
use Rattle.model.proofs.Writes.{occ_cons}
use Rattle.law_formed.specs.Visits.{clean, lefts, enters}
use Rattle.law_formed.proofs.Clean.{clean-append}
use Rattle.law_formed.proofs.Tally.{left-append, enters-append}
use Rattle.tree_turn.specs.Left.{left, Valid, Moves, on_path}
use Rattle.tree_turn.specs.Trace.{Walked}
use Rattle.tree_turn.proofs.InPlace.{rooted-left, entered-trail}

module _ {C : Shape} {P : ℕ} {w : List ℕ} {n : ℕ} where
  -- at a node just entered
  pub start-walked : Valid C P w (height C w n) (entered n ∷ []) → Walked C P w n [] (rooted n)
  unfolding clean lefts enters on_path stack
  start-walked v = record { one = sym (rooted-left false C P w n v); all-clean = tt; held = λ m. omega (arith, occ_nil m) }

  module _ {seen : List Visit} {p : Path} (W : Walked C P w n seen p) (z : 0 < p.depth) where
    on-top : (m : ℕ) → occ m (on_path (trail p)) ≡ occ m ((last_of p).node.0 ∷ []) + occ m (on_path (above p))
    unfolding on_path
    on-top m = ap (λ (st : List Position). occ m (on_path st)) (stack_pop p.positions p.depth z) ∙ occ_cons m (last_of p).node.0 (on_path (above p))

    -- one visit more: what it enters or leaves is on the path or no more
    goes_on : (v : Visit) (q : Path) → Moves false C P w p v q → T (clean (v ∷ [])) → ((k : ℕ) → occ k (on_path (trail q)) + occ k (lefts (v ∷ [])) ≡ occ k (on_path (trail p)) + occ k (enters (v ∷ [])))
        → Walked C P w n (seen ++ (v ∷ [])) q
    goes_on v q m t f =
        record {
          one = W.one ∙ ap (λ (vs : List Visit). seen ++ vs) m.one ∙ sym (append_assoc seen (v ∷ []) (left false C P w q));
          all-clean = subst T (sym (clean-append seen (v ∷ []))) (both (clean seen) (clean (v ∷ [])) W.all-clean t);
          held = λ k. (let e = occ-append k (enters seen) (enters (v ∷ [])) in
              let l = ap (occ k) (left-append seen (v ∷ [])) ∙ occ-append k (lefts seen) (lefts (v ∷ [])) in
              omega (arith, W.held k, f k, e, l, ap (occ k) (enters-append seen (v ∷ [])), occ_cons k n (enters (seen ++ (v ∷ []))), occ_cons k n (enters seen)));
        }

    -- the last node is left
    pub walked-out : Moves false C P w p (Leave (last_of p).node.0) (popped p) → Walked C P w n (seen ++ (Leave (last_of p).node.0 ∷ [])) (popped p)
    unfolding clean lefts enters
    walked-out m = goes_on (Leave (last_of p).node.0) (popped p) m tt (λ k. omega (arith, on-top k, occ_nil k))

    -- a child is entered
    pub walked_in : (c : ℕ) → length p.positions ≡ 32 → p.depth < 32 → Moves false C P w p (Enter c) (entered_path p c) → Walked C P w n (seen ++ (Enter c ∷ [])) (entered_path p c)
    unfolding clean lefts enters on_path
    walked_in c l d m =
        let x = (last_of p).node.0 in
        goes_on (Enter c) (entered_path p c) m tt (λ k. omega (arith, on-top k, occ_nil k, ap (λ (st : List Position). occ k (on_path st)) (entered-trail p z l c d), occ_cons k c (x ∷ on_path (above p)), occ_cons k x (on_path (above p))))
