use Prim.Native.Nat.{◌≤◌}
use lib.ListN.{length}
use Rattle.script_both.proofs.report_all.Given as goal

abbrev pub invariant-loop-script : goal.invariant-loop-script
invariant-loop-script g l = length l.rest ≤ length l.input

abbrev pub decreases-loop-script : goal.decreases-loop-script
decreases-loop-script g l = length l.rest
