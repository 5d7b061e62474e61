-- Nodes of a slice.
use Rattle.std.specs.Prelude.{ℕ, ◌<◌, List, [], ◌∷◌, get_or}
use Rattle.model.specs.declared.id.NodeNo.{NodeNo}

-- number i of these nodes
abbrev pub number_at : List NodeNo → ℕ → ℕ
number_at l i = (get_or l i (record { 0 = 0 })).0

abbrev pub numbers : List NodeNo → List ℕ
numbers [] = []
numbers (n ∷ ns) = n.0 ∷ numbers ns

-- these nodes are in the pool
unfoldable pub Inside : ℕ → List ℕ → Type 0
Inside P [] = Unit {0}
Inside P (n ∷ ns) = (n < P) × Inside P ns
