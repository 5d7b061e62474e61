use lib.ListN.{length}
use Rattle.script_both.proofs.single.Run.list_blocks.Given as goal

abbrev pub decreases-loop-self : goal.decreases-loop-self
decreases-loop-self l = length l.rest
