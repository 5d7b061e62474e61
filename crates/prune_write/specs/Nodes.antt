-- Nodes of an array.
use Rattle.std.specs.Prelude.{ℕ, ◌<◌, List, get_or}
use Rattle.model.specs.declared.id.NodeNo.{NodeNo}

-- the first k are in the pool
unfoldable pub AllIn : ℕ → List NodeNo → ℕ → Type 0
AllIn P ns k = (i : ℕ) → i < k → (get_or ns i (record { 0 = 0 })).0 < P
