use Rattle.node_read.specs.Layout.{shape_of}
use Rattle.tree_right_edge.specs.Edge.{room_of}
use Rattle.tree_right_edge.proofs.Turns.{Going}
use Rattle.tree_right_edge.proofs.go_down.Given as goal

abbrev pub invariant-loop-positions : goal.invariant-loop-positions
invariant-loop-positions l = Going (shape_of l.s.layout) l.s.layout.pool l.s.words.now l.height l.initial.n.0 l.initial.r.0 l.positions (room_of l.room) l.parent.0 l.n.0 l.h l.r.0 l.depth

abbrev pub decreases-loop-positions : goal.decreases-loop-positions
decreases-loop-positions l = l.h
