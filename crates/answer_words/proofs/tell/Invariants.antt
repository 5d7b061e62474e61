use Rattle.std.proofs.Common.{◌≡◌}
use lib.ListN.{drop}
use Rattle.model.specs.Words.{fill}
use Rattle.answer_words.proofs.tell.Given as goal

-- the words that are left make the array what all of them make it
abbrev pub invariant-loop-i : goal.invariant-loop-i
invariant-loop-i l = fill l.out l.i (drop l.i l.words) ≡ fill l.fn.out 0 l.words
