use Rattle.node_read.specs.Layout.{shape_of}
use Rattle.prune_edge.proofs.Climbing.{Climbing}
use Rattle.prune_edge.proofs.climb.Given as goal

abbrev pub invariant-loop-edge : goal.invariant-loop-edge
invariant-loop-edge l = Climbing (shape_of l.s.layout) l.s.layout.pool l.s.words.now l.initial.edge l.initial.gone l.edge l.gone

abbrev pub decreases-loop-edge : goal.decreases-loop-edge
decreases-loop-edge l = l.edge.depth
