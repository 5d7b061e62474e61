use Rattle.prune_edge.proofs.Settling.{Settling}
use Rattle.prune_edge.proofs.settle.Given as goal

abbrev pub invariant-loop-i : goal.invariant-loop-i
invariant-loop-i l = Settling l.initial.edge l.edge l.levels l.i
