use Prim.Native.Nat.{◌-◌}
use Rattle.node_read.specs.Layout.{shape_of}
use Rattle.node_test.proofs.Rows.{At}
use Rattle.node_test.proofs.rises.Given as goal

abbrev pub invariant-loop-i : goal.invariant-loop-i
invariant-loop-i l = At (shape_of l.s.layout) l.s.words.now l.n.0 l.last l.i l.count

abbrev pub decreases-loop-i : goal.decreases-loop-i
decreases-loop-i l = l.count - l.i

abbrev pub invariant-loop-k : goal.invariant-loop-k
invariant-loop-k l = At (shape_of l.s.layout) l.s.words.now l.n.0 l.last l.k l.count
