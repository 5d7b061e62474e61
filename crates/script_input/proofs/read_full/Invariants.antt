use Rattle.std.proofs.Common.{◌≤◌, length}
use Rattle.script_input.proofs.read_full.Given as goal

abbrev pub invariant-loop-input : goal.invariant-loop-input
invariant-loop-input g l = length l.rest ≤ l.all

abbrev pub decreases-loop-input : goal.decreases-loop-input
decreases-loop-input g l = length l.rest
