use native.Mathlib.Omega.{arith}
use Rattle.script_text.proofs.Putting.{number_more}
use Rattle.script_text.proofs.Lines.put_numbers.Goals as goal

pub loop-n-preserved : goal.loop-n-preserved
loop-n-preserved c = number_more c.args.list.now _ (omega arith) c.loop-n.invariant c.put_number.ensures
