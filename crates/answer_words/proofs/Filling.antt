-- The words of an answer one by one.
use Prim.Native.Nat.{ℕ, ◌+◌, ◌<◌}
use mathlib.Core.Path.{◌≡◌, refl}
use mathlib.Core.List.{List, [], ◌∷◌}
use native.Mathlib.Omega.{arith}
use lib.ListN.{length, get_or, set, drop}
use Rattle.std.proofs.lemmas.List.{drop_more}
use Rattle.model.specs.Words.{fill}

-- the elements of an array of five
pub five : (vs : List ℕ) → length vs ≡ 5 → vs ≡ get_or vs 0 0 ∷ get_or vs 1 0 ∷ get_or vs 2 0 ∷ get_or vs 3 0 ∷ get_or vs 4 0 ∷ []
five [] h = absurd (omega arith)
five (a ∷ []) h = absurd (omega arith)
five (a ∷ b ∷ []) h = absurd (omega arith)
five (a ∷ b ∷ c ∷ []) h = absurd (omega arith)
five (a ∷ b ∷ c ∷ d ∷ []) h = absurd (omega arith)
five (a ∷ b ∷ c ∷ d ∷ e ∷ []) h = refl
five (a ∷ b ∷ c ∷ d ∷ e ∷ f ∷ vs) h = absurd (omega arith)

-- the next word of a list is put
pub fill_next : (l xs : List ℕ) (i : ℕ) → i < length xs → fill l i (drop i xs) ≡ fill (set l i (get_or xs i 0)) (i + 1) (drop (i + 1) xs)
unfolding fill
fill_next l xs i h = rw (drop_more xs i 0 h) refl
