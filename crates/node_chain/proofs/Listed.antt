-- A part of an array of nodes as a list.
use Prim.Native.Nat.{ℕ, zero, suc, ◌+◌}
use mathlib.Core.List.{List}
use mathlib.Core.Path.{◌≡◌, refl, ap}
use lib.ListN.{length}
use Rattle.model.specs.declared.id.NodeNo.{NodeNo}
use Rattle.node_chain.specs.Chain.{listed}

pub length-listed : (l : List NodeNo) (i k : ℕ) → length (listed l i k) ≡ k
unfolding listed
length-listed l i zero = refl
length-listed l i (suc k) = ap suc (length-listed l (i + 1) k)
