use lib.ListN.{take}
use Rattle.script_text.specs.Lines.{Put}
use Rattle.script_text.proofs.Lines.put_bytes.Given as goal

abbrev pub invariant-loop-byte : goal.invariant-loop-byte
invariant-loop-byte l = Put l.initial.self (take l.byte-index l.bytes) l.self
