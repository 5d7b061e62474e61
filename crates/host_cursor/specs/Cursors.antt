-- A cursor as two lent words: its row, and 0 where it is not done. Where a word is not there, the row is 0 and the cursor
-- is done.
use Rattle.std.specs.Prelude.{ℕ, List, [], ◌∷◌, not, get_or, eqb}
use Rattle.model.specs.Words.{pick, fill}
use Rattle.model.specs.Refusals.{Answer}
use Rattle.model.specs.LeafWalk.{cursor_at, gives_leaf}
use Rattle.model.specs.declared.cursor.RowPageIndexMemCursor.{RowPageIndexMemCursor}

abbrev pub cursor_in : List ℕ → RowPageIndexMemCursor
cursor_in l = cursor_at (get_or l 0 0) (not (eqb (get_or l 1 1) 0))

abbrev pub cursor_words : RowPageIndexMemCursor → List ℕ
cursor_words c = c.row_id.0 ∷ pick c.done 1 0 ∷ []

-- "Nothing lent changes, cursor included": the words change where a step gave a leaf, and only there, whatever they held
abbrev pub cursor_after : List ℕ → RowPageIndexMemCursor → Answer → List ℕ
cursor_after l c a = pick (gives_leaf a) (fill l 0 (cursor_words c)) l
