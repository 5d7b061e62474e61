-- A host's cursor in lent words, and what it gets for it.
use Rattle.std.specs.Prelude.{ℕ, List, [], ◌∷◌, map, true, false}
use Rattle.model.specs.Refusals.{result, refused}
use Rattle.model.specs.LeafWalk.{cursor_at}
use Rattle.model.specs.declared.cursor.RowPageIndexMemCursor.{RowPageIndexMemCursor}
use Rattle.answer_numbers.specs.Numbers.{answer_words}
use Rattle.host_cursor.specs.Cursors.{cursor_in, cursor_words, cursor_after}
use Rattle.host.specs.Served.{served, seek, next, on_cursor, on_walk}

-- words read as a cursor: "a cursor never sought is done", and so is one of which a word is not there
abbrev pub read : List (List ℕ × RowPageIndexMemCursor)
read =
    ([], cursor_at 0 true)
    ∷ (5 ∷ [], cursor_at 5 true)
    ∷ (5 ∷ 0 ∷ [], cursor_at 5 false)
    ∷ (5 ∷ 1 ∷ [], cursor_at 5 true)
    ∷ (5 ∷ 2 ∷ [], cursor_at 5 true)
    ∷ []

abbrev pub read_words : List RowPageIndexMemCursor
read_words = map (λ (l : List ℕ × RowPageIndexMemCursor). cursor_in l.0) read

abbrev pub read_cursors : List RowPageIndexMemCursor
read_cursors = map (λ (l : List ℕ × RowPageIndexMemCursor). l.1) read

-- a cursor's words; the words after a step that gave a leaf, as far as they fit, after one that gave none, after a refusal
abbrev pub written_words : List (List ℕ)
written_words =
    cursor_words (cursor_at 5 false)
    ∷ cursor_words (cursor_at 5 true)
    ∷ cursor_after (9 ∷ 2 ∷ 7 ∷ []) (cursor_at 20 false) (result (0 ∷ 20 ∷ 2 ∷ []))
    ∷ cursor_after (9 ∷ []) (cursor_at 20 true) (result (0 ∷ 20 ∷ 2 ∷ []))
    ∷ cursor_after (9 ∷ 2 ∷ []) (cursor_at 20 true) (result [])
    ∷ cursor_after (9 ∷ 2 ∷ []) (cursor_at 20 true) (refused 13 2)
    ∷ (served (on_cursor (9 ∷ 1 ∷ 7 ∷ [])) (seek 20)).arrays.cursor
    ∷ []

abbrev pub written_expected : List (List ℕ)
written_expected =
    (5 ∷ 0 ∷ [])
    ∷ (5 ∷ 1 ∷ [])
    ∷ (20 ∷ 0 ∷ 7 ∷ [])
    ∷ (20 ∷ [])
    ∷ (9 ∷ 2 ∷ [])
    ∷ (9 ∷ 2 ∷ [])
    ∷ (20 ∷ 0 ∷ 7 ∷ [])
    ∷ []

-- a store of one node, a leaf that holds page 1 from row 0 and page 2 from row 10 on, and ends at 20
abbrev pub two_pages : List ℕ
two_pages = 2 ∷ 1 ∷ 0 ∷ 1 ∷ 0 ∷ 0 ∷ 0 ∷ 0 ∷ 0 ∷ 2 ∷ 0 ∷ 20 ∷ 0 ∷ 1 ∷ 10 ∷ 2 ∷ []

-- a step from a cursor of these words, with room for so many records: the words of the answer, the cursor, the records
abbrev pub step : List ℕ → List ℕ → List (List ℕ)
step c l =
    let s = served (on_walk two_pages c l) next in
    answer_words s.answer ∷ s.arrays.cursor ∷ s.arrays.records ∷ []

-- a leaf; none, from a cursor of one word, of none, of one that is done; no room
abbrev pub steps : List (List (List ℕ))
steps =
    step (5 ∷ 0 ∷ []) (7 ∷ 7 ∷ 7 ∷ 7 ∷ 7 ∷ 7 ∷ [])
    ∷ step (5 ∷ []) (7 ∷ 7 ∷ 7 ∷ 7 ∷ [])
    ∷ step [] (7 ∷ 7 ∷ 7 ∷ 7 ∷ [])
    ∷ step (5 ∷ 2 ∷ []) (7 ∷ 7 ∷ 7 ∷ 7 ∷ [])
    ∷ step (5 ∷ 0 ∷ []) (7 ∷ 7 ∷ 7 ∷ [])
    ∷ []

abbrev pub none : List ℕ
none = 0 ∷ 0 ∷ 0 ∷ 0 ∷ 0 ∷ 0 ∷ 0 ∷ []

abbrev pub steps_expected : List (List (List ℕ))
steps_expected =
    ((0 ∷ 3 ∷ 0 ∷ 20 ∷ 2 ∷ 0 ∷ 0 ∷ []) ∷ (20 ∷ 1 ∷ []) ∷ (0 ∷ 1 ∷ 10 ∷ 2 ∷ 7 ∷ 7 ∷ []) ∷ [])
    ∷ (none ∷ (5 ∷ []) ∷ (7 ∷ 7 ∷ 7 ∷ 7 ∷ []) ∷ [])
    ∷ (none ∷ [] ∷ (7 ∷ 7 ∷ 7 ∷ 7 ∷ []) ∷ [])
    ∷ (none ∷ (5 ∷ 2 ∷ []) ∷ (7 ∷ 7 ∷ 7 ∷ 7 ∷ []) ∷ [])
    ∷ ((13 ∷ 1 ∷ 2 ∷ 0 ∷ 0 ∷ 0 ∷ 0 ∷ []) ∷ (5 ∷ 0 ∷ []) ∷ (7 ∷ 7 ∷ 7 ∷ []) ∷ [])
    ∷ []
