use Prim.Native.Nat.{◌-◌}
use Rattle.node_read.specs.Layout.{shape_of}
use Rattle.prune_collapse.proofs.Copying.{Copying}
use Rattle.prune_collapse.proofs.find_copies.Given as goal

abbrev pub invariant-loop-i : goal.invariant-loop-i
invariant-loop-i l = Copying (shape_of l.s.layout) l.s.layout.pool l.s.words.now l.fn.root.0 l.edge.positions l.edge.depth l.nodes l.n.0 (l.levels - l.i) l.i
