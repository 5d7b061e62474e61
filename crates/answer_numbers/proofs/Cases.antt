-- The words of answers, by computation.
use mathlib.Core.Path.{◌≡◌, refl}
use Rattle.answer_numbers.specs.Numbers.{answer_words}
use Rattle.answer_numbers.specs.Cases.{given, expected}

pub cases : given ≡ expected
unfolding answer_words
cases = refl
