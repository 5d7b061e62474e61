-- A branch's end is NONE or what is next.
use Prim.Native.Nat.{ℕ, zero, suc}
use mathlib.Core.Bool.{Bool, false, ◌||◌, or-false}
use mathlib.Core.Path.{◌≡◌, refl, sym}
use lib.Dec.{eqb}
use Rattle.model.specs.Words.{NONE}
use Rattle.model.specs.Tree.{Limit, Open, Below}
use Rattle.model.specs.Reading.{end_fits}

abbrev is_next : Limit → ℕ → Bool
is_next Open e = false
is_next (Below r) e = eqb e r

pub ends-branch : (h : ℕ) (b : Limit) (e : ℕ) → (h ≡ 0 → ⊥) → end_fits h b e ≡ (eqb e NONE || is_next b e)
unfolding end_fits
ends-branch zero b e z = absurd (z refl)
ends-branch (suc h) Open e z = sym (or-false (eqb e NONE))
ends-branch (suc h) (Below r) e z = refl
