-- What a valid path says of its last position.
use Prim.Native.Nat.{ℕ, zero, suc, ◌+◌, ◌-◌, ◌<◌, ◌≤◌, zero-le}
use mathlib.Core.List.{List, [], ◌∷◌}
use mathlib.Core.Path.{◌≡◌, sym, subst}
use native.Mathlib.Omega.{arith}
use lib.ListN.{get_or}
use Rattle.model.specs.Words.{Shape, height, count}
use Rattle.model.specs.Paths.{no_position, stack, trail, last_of}
use Rattle.model.specs.declared.path.Position.{Position}
use Rattle.model.specs.declared.path.Path.{Path}
use Rattle.model.proofs.Paths.{stack_pop}
use Rattle.tree_turn.specs.Left.{Valid, lowest, ValidPath}

module _ (C : Shape) (P : ℕ) (w : List ℕ) where
  pub valid_depth : (l : List Position) (d h : ℕ) → Valid C P w h (stack l d) → h + d ≤ 32
  unfolding Valid stack
  valid_depth l zero h v = omega arith
  valid_depth l (suc d) h v = omega (arith, valid_depth l d (suc h) v.above)

  -- position d - 1, where the nodes from it on have height h
  pub record Top (l : List Position) (d h : ℕ) : Type 0 where
    pub inside : (get_or l (d - 1) no_position).node.0 < P
    pub high : height C w (get_or l (d - 1) no_position).node.0 ≡ h
    pub within : (get_or l (d - 1) no_position).index ≤ count C w (get_or l (d - 1) no_position).node.0
    pub narrow : count C w (get_or l (d - 1) no_position).node.0 ≤ C.cap
    pub over : Valid C P w (suc h) (stack l (d - 1))
    pub deep : h + d ≤ 32

  pub top : (l : List Position) (d h : ℕ) → 0 < d → Valid C P w h (stack l d) → Top l d h
  unfolding Valid
  top l d h z v =
      let u = rw (stack_pop l d z) at v in
      record { inside = u.inside; high = u.high; within = u.within; narrow = u.narrow; over = u.above; deep = valid_depth l d h v }

  -- a valid path's height is what its last node says
  pub fit-valid : (h : ℕ) (st : List Position) → Valid C P w h st → Valid C P w (lowest C w st) st
  unfolding lowest Valid
  fit-valid h [] v = zero-le
  fit-valid h (p ∷ up) v = subst (λ (k : ℕ). Valid C P w k (p ∷ up)) (sym v.high) v

  pub valid-path : (q : Path) (h : ℕ) (st : List Position) → trail q ≡ st → Valid C P w h st → ValidPath C P w q
  unfolding ValidPath
  valid-path q h st e v = rw e (fit-valid h st v)

  pub valid-top : (p : Path) → 0 < p.depth → ValidPath C P w p → Top p.positions p.depth (height C w (last_of p).node.0)
  unfolding ValidPath lowest
  valid-top p z v =
      top p.positions p.depth (height C w (last_of p).node.0) z
      (subst (λ (st : List Position). Valid C P w (lowest C w st) (trail p)) (stack_pop p.positions p.depth z) v)
