use native.Mathlib.Omega.{arith}
use Rattle.script_records.proofs.Little.{reads}
use Rattle.script_records.proofs.read_u32.Goals as goal

pub returns : goal.returns
returns c = reads 3 (rw c.unwrap.ensures at c.try_into.ensures.1).same (omega arith) (omega arith) c.from_le_bytes.ensures
