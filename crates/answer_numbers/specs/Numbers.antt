-- An answer as seven words, for a host that has no enums: 0, how many values, and the values; or a refusal's number, 1, and
-- its detail. There is room for five values; words that mean nothing are 0.
use Rattle.std.specs.Prelude.{ℕ, ◌≡◌, List, [], ◌∷◌, ◌++◌, length, take, eqb, get_or}
use Rattle.model.specs.Words.{pick}
use Rattle.model.specs.Refusals.{Answer, result, refused}
use Rattle.answer_numbers.specs.declared.Numbers.{Numbers}

abbrev pub seven_words : ℕ → List ℕ → List ℕ
seven_words n vs = n ∷ length vs ∷ take 5 (vs ++ (0 ∷ 0 ∷ 0 ∷ 0 ∷ 0 ∷ []))

unfoldable pub answer_words : Answer → List ℕ
answer_words (result vs) = seven_words 0 vs
answer_words (refused n d) = seven_words n (d ∷ [])

abbrev pub five_of : Numbers → List ℕ
five_of n = n.values

abbrev pub words_of : Numbers → List ℕ
words_of n = n.number ∷ n.count ∷ five_of n

-- the answer that numbers tell
unfoldable pub answer_of : Numbers → Answer
answer_of n = pick (eqb n.number 0) (result (take n.count (five_of n))) (refused n.number (get_or n.values 0 0))

-- The numbers of an answer: they tell it, and they are its words
pub record Encodes (n : Numbers) (a : Answer) : Type 0 where
  pub answer : answer_of n ≡ a
  pub words : words_of n ≡ answer_words a
