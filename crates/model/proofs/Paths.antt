-- Stores into the positions of a path.
use Prim.Native.Nat.{ℕ, zero, suc, ◌+◌, ◌-◌, ◌<◌, ◌≤◌}
use mathlib.Core.List.{List, [], ◌∷◌}
use mathlib.Core.Path.{◌≡◌, refl}
use native.Mathlib.Omega.{arith}
use native.Mathlib.Nat.{lt_irrefl}
use native.Mathlib.Numerals.{add-one}
use lib.ListN.{get_or, set, length}
use lib.Seq.{get_or-set_other, get_or-set_same}
use Rattle.model.specs.declared.path.Position.{Position}
use Rattle.model.specs.Paths.{no_position, stack}

pub stack_pop : (l : List Position) (d : ℕ) → 0 < d → stack l d ≡ get_or l (d - 1) no_position ∷ stack l (d - 1)
unfolding stack
stack_pop l d h = let e : d ≡ suc (d - 1) = omega arith in let k : suc (d - 1) - 1 ≡ d - 1 = omega arith in rw (e, k)

pub stack-none : (l : List Position) (d : ℕ) → d ≡ 0 → stack l d ≡ []
unfolding stack
stack-none l d e = rw e

pub stack_set : (l : List Position) (k : ℕ) (p : Position) (d : ℕ) → d ≤ k → stack (set l k p) d ≡ stack l d
unfolding stack
stack_set l k p zero h = refl
stack_set l k p (suc d) h = rw (get_or-set_other l k d p no_position (λ e. lt_irrefl d (rw (← e) at h)), stack_set l k p d (omega arith))

pub stack_push : (l : List Position) (k : ℕ) (p : Position) → k < length l → stack (set l k p) (k + 1) ≡ p ∷ stack l k
unfolding stack
stack_push l k p h = rw (add-one, get_or-set_same, stack_set l k p k (omega arith))

pub stack-turn : (l : List Position) (d : ℕ) (p : Position) → 0 < d → d ≤ length l → stack (set l (d - 1) p) d ≡ p ∷ stack l (d - 1)
stack-turn l d p z h =
    let k : d - 1 < length l = omega arith in
    rw (stack_pop (set l (d - 1) p) d z, get_or-set_same, stack_set l (d - 1) p (d - 1) (omega arith))
