use Rattle.std.proofs.Common.{◌≤◌, ◌+◌, length}
use Rattle.store_text.proofs.number.count_numbers.Given as goal

abbrev pub invariant-loop-word : goal.invariant-loop-word
invariant-loop-word l = l.count + length l.word-iterator.0.now ≤ length l.fn.words.0.now
