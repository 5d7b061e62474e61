use native.Mathlib.Omega.{arith}
use Rattle.script_text.proofs.Putting.{one_more}
use Rattle.script_text.proofs.Lines.put_bytes.Goals as goal

pub loop-byte-preserved : goal.loop-byte-preserved
loop-byte-preserved c = one_more c.args.bytes.now _ (omega arith) c.loop-byte.invariant c.put_byte.ensures
