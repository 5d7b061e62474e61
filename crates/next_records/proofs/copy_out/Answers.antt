use Rattle.std.proofs.Common.{arith}
use Rattle.next_records.proofs.Filling.{none, more}
use Rattle.next_records.proofs.copy_out.Goals as goal

pub loop-i-init : goal.loop-i-init
loop-i-init c = (omega arith, none _ _ _ _)

pub loop-i-preserved : goal.loop-i-preserved
loop-i-preserved c = (omega arith, more _ _ _ _ _ _ _ c.loop-i.invariant.1 c.entry_at.ensures)
