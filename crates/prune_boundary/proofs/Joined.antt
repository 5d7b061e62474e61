-- The path that was climbed, by its heights and its positions.
use Prim.Native.Nat.{ℕ, zero, suc, ◌+◌, ◌-◌, ◌<◌, ◌≤◌}
use mathlib.Core.List.{List, [], ◌∷◌}
use mathlib.Core.Path.{◌≡◌, refl, sym, ap, ◌∙◌}
use native.Mathlib.Omega.{arith}
use native.Mathlib.Nat.{add-zero}
use lib.ListN.{get_or, length}
use lib.Dec.{ltb}
use borrow.Author.Tests.{ltb-true, ltb-false}
use Rattle.model.specs.Words.{Shape, height}
use Rattle.model.specs.Paths.{no_position, stack, last_of, above}
use Rattle.model.specs.declared.path.Position.{Position}
use Rattle.model.specs.declared.path.Path.{Path}
use Rattle.model.proofs.Tests.{by_test}
use Rattle.tree_turn.proofs.Valid.{valid-top}
use Rattle.prune_boundary.specs.Behind.{Passed, Above, Behind}
use Rattle.prune_boundary.specs.Edge.{Climbed}
use Rattle.prune_boundary.proofs.Behind.{tall}

pub stack-length : (l : List Position) (d : ℕ) → length (stack l d) ≡ d
unfolding stack
stack-length l zero = refl
stack-length l (suc d) = ap suc (stack-length l d)

module _ (C : Shape) (P : ℕ) (w : List ℕ) where
  pub top-height : (root h n : ℕ) (up : List Position) → Passed C P w h n up → Above C P w root h n up → height C w root ≡ h + length up
  unfolding Above
  top-height root h n [] p a = ap (height C w) (sym a) ∙ tall C P w h n [] p ∙ sym (add-zero h)
  top-height root h n (q ∷ up) p a = let z : suc h + length up ≡ h + suc (length up) = omega arith in top-height root (suc h) q.node.0 up a.passed a.above ∙ z

  ahead-up : (root h n : ℕ) (l : List Position) (d : ℕ) → Above C P w root h n (stack l d) → (i : ℕ) → i < d → 1 ≤ (get_or l i no_position).index
  unfolding Above stack
  ahead-up root h n l zero a i m = absurd (omega arith)
  ahead-up root h n l (suc d) a i m =
      by_test (ltb i d)
      (λ t. ahead-up root (suc h) (get_or l d no_position).node.0 l d a.above i (ltb-true i d t))
      (λ t. let e : i ≡ d = omega (arith, ltb-false i d t) in rw e a.some)

-- The laws
module _ {C : Shape} {P : ℕ} {w : List ℕ} {e root : ℕ} {p : Path} (c : Climbed C P w e root p) where
  abbrev n : ℕ
  n = (last_of p).node.0

  pub depth_low : height C w n + p.depth ≤ 32
  depth_low = (valid-top C P w p c.deep c.valid).deep

  pub root-high : height C w root ≡ height C w n + (p.depth - 1)
  unfolding Behind
  root-high = let b = c.cutting.behind in top-height C P w root (height C w n) n (above p) b.passed b.above ∙ ap (λ (x : ℕ). height C w n + x) (stack-length p.positions (p.depth - 1))

  -- all positions but the last stand after an entry
  pub edge-ahead : (i : ℕ) → i < p.depth - 1 → 1 ≤ (get_or p.positions i no_position).index
  unfolding Behind
  edge-ahead i m = ahead-up C P w root (height C w n) n p.positions (p.depth - 1) c.cutting.behind.above i m
