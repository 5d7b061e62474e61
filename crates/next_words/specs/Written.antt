-- The leaf walk with records written as words.
use Rattle.std.specs.Prelude.{ℕ, ◌/◌, ◌≤◌, List, [], ◌∷◌, ◌≡◌, length}
use Rattle.model.specs.Words.{lent, fill}
use Rattle.model.specs.Refusals.{Answer, next_leaf}
use Rattle.model.specs.LeafWalk.{page_entry, next_leaf_of}
use Rattle.model.specs.declared.node.PageEntry.{PageEntry}
use Rattle.model.specs.declared.cursor.RowPageIndexMemCursor.{RowPageIndexMemCursor}
use Rattle.next_words.specs.declared.WordStep.{WordStep}

-- row and page of each record in turn
unfoldable pub record_words : List PageEntry → List ℕ
record_words [] = []
record_words (e ∷ es) = e.row_id.0 ∷ e.page_id.0 ∷ record_words es

-- Answer and cursor are those of next for every list of records that the words have room for; the records that it
-- gives out are written as words, and the other words stay.
pub record WordSteps (w : List ℕ) (c : RowPageIndexMemCursor) (before after : List ℕ) (r : WordStep) : Type 0 where
  pub given : List PageEntry
  pub answer : (l : List PageEntry) → length l ≡ length before / 2 → next_leaf r.answer ≡ (next_leaf_of lent w c l).answer
  pub cursor : (l : List PageEntry) → length l ≡ length before / 2 → r.cursor ≡ (next_leaf_of lent w c l).cursor
  pub list : (l : List PageEntry) → length l ≡ length before / 2 → (next_leaf_of lent w c l).list ≡ fill l 0 given
  pub few : length given ≤ length before / 2
  pub words : after ≡ fill before 0 (record_words given)

-- words read as records, two to a record; an odd word is none
unfoldable pub records_in : List ℕ → List PageEntry
records_in [] = []
records_in (r ∷ []) = []
records_in (r ∷ x ∷ ws) = page_entry r x ∷ records_in ws

-- an answer, the cursor and the words afterwards
pub record WordOutcome : Type 0 where
  pub answer : Answer
  pub cursor : RowPageIndexMemCursor
  pub words : List ℕ

-- next on these records, and its list written back
abbrev pub next_words_of : List ℕ → RowPageIndexMemCursor → List ℕ → WordOutcome
next_words_of w c before =
    let o = next_leaf_of lent w c (records_in before) in
    record { answer = o.answer; cursor = o.cursor; words = fill before 0 (record_words o.list) }
