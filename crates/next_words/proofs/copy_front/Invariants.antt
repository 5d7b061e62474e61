use Rattle.std.proofs.Common.{◌≡◌, ◌≤◌, length}
use lib.ListN.{take}
use Rattle.model.specs.Words.{fill}
use Rattle.next_words.proofs.copy_front.Given as goal

abbrev pub invariant-loop-i : goal.invariant-loop-i
invariant-loop-i l = (l.i ≤ length l.from) × (length l.out ≡ length l.fn.out) × (l.out ≡ fill l.fn.out 0 (take l.i l.from))
