-- Answers and their seven words.
use Rattle.std.specs.Prelude.{ℕ, List, [], ◌∷◌, map}
use Rattle.model.specs.Refusals.{Answer, result, refused}
use Rattle.answer_numbers.specs.Numbers.{answer_words}

-- an answer, and what it is as words
abbrev pub Line : Type 0
Line = Answer × List ℕ

-- a create or none; a page; a release; an append; five values; refusals
abbrev pub table : List Line
table =
    (result [], 0 ∷ 0 ∷ 0 ∷ 0 ∷ 0 ∷ 0 ∷ 0 ∷ [])
    ∷ (result (3 ∷ []), 0 ∷ 1 ∷ 3 ∷ 0 ∷ 0 ∷ 0 ∷ 0 ∷ [])
    ∷ (result (11 ∷ 9 ∷ []), 0 ∷ 2 ∷ 11 ∷ 9 ∷ 0 ∷ 0 ∷ 0 ∷ [])
    ∷ (result (0 ∷ 10 ∷ 2 ∷ []), 0 ∷ 3 ∷ 0 ∷ 10 ∷ 2 ∷ 0 ∷ 0 ∷ [])
    ∷ (result (4 ∷ 5 ∷ 6 ∷ 7 ∷ 8 ∷ []), 0 ∷ 5 ∷ 4 ∷ 5 ∷ 6 ∷ 7 ∷ 8 ∷ [])
    ∷ (refused 2 65535, 2 ∷ 1 ∷ 65535 ∷ 0 ∷ 0 ∷ 0 ∷ 0 ∷ [])
    ∷ (refused 8 100, 8 ∷ 1 ∷ 100 ∷ 0 ∷ 0 ∷ 0 ∷ 0 ∷ [])
    ∷ []

abbrev pub given : List (List ℕ)
given = map (λ (l : Line). answer_words l.0) table

abbrev pub expected : List (List ℕ)
expected = map (λ (l : Line). l.1) table
