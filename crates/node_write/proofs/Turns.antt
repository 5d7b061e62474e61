-- A loop up to n is at i: what a definition makes of the n - i turns left, by one turn, and at the end.
use Prim.Native.Nat.{ℕ, suc, ◌+◌, ◌-◌, ◌<◌, ◌≤◌}
use mathlib.Core.Path.{◌≡◌, ap}
use native.Mathlib.Omega.{arith}

module _ {A : Type 0} (f : ℕ → A) (i n : ℕ) where
  pub turn : i < n → f (n - i) ≡ f (suc (n - (i + 1)))
  turn l = ap f (omega arith)

  pub stop : n ≤ i → f (n - i) ≡ f 0
  stop l = ap f (omega arith)
