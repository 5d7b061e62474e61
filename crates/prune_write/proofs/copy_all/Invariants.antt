use Prim.Native.Nat.{◌-◌}
use mathlib.Core.Path.{◌≡◌}
use lib.ListN.{length}
use Rattle.model.specs.Prune.{copy_all}
use Rattle.node_read.specs.Layout.{shape_of}
use Rattle.node_read.specs.Store.{SameLoan}
use Rattle.node_chain.specs.Chain.{listed}
use Rattle.prune_write.proofs.copy_all.Given as goal

abbrev pub invariant-loop-n : goal.invariant-loop-n
invariant-loop-n l = SameLoan l.fn.s l.s × (copy_all (shape_of l.fn.s.layout) l.fn.s.words.now l.root.0 (listed l.nodes 0 (length l.nodes)) ≡ copy_all (shape_of l.fn.s.layout) l.s.words.now l.root.0 (listed l.nodes l.n-index (length l.nodes - l.n-index)))
