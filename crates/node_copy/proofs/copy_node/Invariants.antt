use Prim.Native.Nat.{◌-◌}
use mathlib.Core.Path.{◌≡◌}
use Rattle.model.specs.Words.{copy_from}
use Rattle.node_read.specs.Layout.{shape_of}
use Rattle.node_read.specs.Store.{SameLoan}
use Rattle.node_copy.proofs.copy_node.Given as goal

abbrev pub invariant-loop-j : goal.invariant-loop-j
invariant-loop-j l = SameLoan l.fn.s l.s × (copy_from (shape_of l.fn.s.layout) l.fn.s.words.now l.from.0 l.to.0 0 l.size ≡ copy_from (shape_of l.fn.s.layout) l.s.words.now l.from.0 l.to.0 l.j (l.size - l.j))
