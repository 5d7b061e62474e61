use native.Mathlib.Omega.{arith}
use Rattle.script_records.proofs.Heads.{within}
use Rattle.script.proofs.record_length.Goals as goal

pub read_u32-requires : goal.read_u32-requires
read_u32-requires c = omega (arith, (within c.args.bytes.now c.requires).1)
