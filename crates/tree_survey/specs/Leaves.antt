-- How many leaves a tree has.
use Rattle.std.specs.Prelude.{ℕ, zero, suc, ◌+◌, List, [], ◌∷◌}
use Rattle.model.specs.Words.{Shape, height}
use Rattle.model.specs.Tree.{Level}
use Rattle.model.specs.Reading.{root_tree}

-- f of each pair, added up
unfoldable pub sum_pairs : {K : Type 0} → (K → ℕ) → List (ℕ × K) → ℕ
sum_pairs f [] = 0
sum_pairs f (p ∷ ps) = f p.1 + sum_pairs f ps

unfoldable pub leaves_below : (h : ℕ) → Level (suc h) → ℕ
leaves_below zero t = 1
leaves_below (suc h) t = sum_pairs (leaves_below h) t.pairs

abbrev pub root_leaves : Shape → List ℕ → ℕ → ℕ
root_leaves C w n = leaves_below (height C w n) (root_tree C w n)
