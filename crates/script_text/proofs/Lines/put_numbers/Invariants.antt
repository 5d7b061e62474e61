use lib.ListN.{take}
use Rattle.script_text.specs.Lines.{numbers, Put}
use Rattle.script_text.proofs.Lines.put_numbers.Given as goal

abbrev pub invariant-loop-n : goal.invariant-loop-n
invariant-loop-n l = Put l.initial.self (numbers (take l.n-index l.list)) l.self
