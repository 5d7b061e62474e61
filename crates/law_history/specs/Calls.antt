-- A history: calls with any arguments on one store, what they answer and leave, and the ledger beside them.
use Rattle.std.specs.Prelude.{ℕ, List, [], ◌∷◌, length, drop}
use Rattle.model.specs.Words.{lent}
use Rattle.model.specs.Refusals.{Answer, result, refused}
use Rattle.model.specs.Lookup.{try_find_row}
use Rattle.model.specs.Append.{insert_row_page}
use Rattle.model.specs.Prune.{prune_checkpoint_prefix}
use Rattle.model.specs.LeafWalk.{unsought, seek, next_leaf_of}
use Rattle.model.specs.Release.{destroy, destroy_empty}
use Rattle.model.specs.FullCheck.{full_check}
use Rattle.model.specs.Ledger.{Ledger, ledger_append}
use Rattle.model.specs.declared.node.PageEntry.{PageEntry}
use Rattle.model.specs.declared.cursor.RowPageIndexMemCursor.{RowPageIndexMemCursor}

-- what is lent beside the store, of any contents
pub record Loan : Type 0 where
  pub cursor : RowPageIndexMemCursor
  pub records : List PageEntry
  pub pages : List ℕ

-- One thing lent changes and the others stay. What a further call is lent becomes a field above, and its name in these
-- four lines with a function of its own; nothing else takes a loan apart or puts one together.
abbrev pub no_loan : Loan
no_loan = record { cursor = unsought; records = []; pages = [] }

module _ (m : Loan) where
  abbrev pub with_cursor : RowPageIndexMemCursor → Loan
  with_cursor c = record { cursor = c; records = m.records; pages = m.pages }

  abbrev pub with_records : List PageEntry → Loan
  with_records x = record { cursor = m.cursor; records = x; pages = m.pages }

  abbrev pub with_pages : List ℕ → Loan
  with_pages x = record { cursor = m.cursor; records = m.records; pages = x }

-- every call but create, with any arguments
pub data Call : Type 0 where
  append : ℕ → ℕ → Call
  lookup : ℕ → Call
  prune : ℕ → ℕ → List ℕ → Call
  seek_row : ℕ → Call
  next_leaf : Call
  release : ℕ → Call
  release_empty : Call
  check : Call

-- an answer, with the words and all else that was lent afterwards
pub record Reply : Type 0 where
  pub answer : Answer
  pub words : List ℕ
  pub loan : Loan

-- the calls' own definitions; what a call does not name stays
unfoldable pub reply : List ℕ → Loan → Call → Reply
reply w m (append k x) = let o = insert_row_page lent w k x in record { answer = o.answer; words = o.words; loan = m }
reply w m (lookup q) = record { answer = try_find_row lent w q; words = w; loan = m }
reply w m (prune s e ids) = let o = prune_checkpoint_prefix lent w s e ids in record { answer = o.answer; words = o.words; loan = m }
reply w m (seek_row q) = record { answer = result []; words = w; loan = with_cursor m (seek q) }
reply w m next_leaf =
    let o = next_leaf_of lent w m.cursor m.records in
    record { answer = o.answer; words = w; loan = with_records (with_cursor m o.cursor) o.list }
reply w m (release v) =
    let o = destroy lent w v m.pages in
    record { answer = o.answer; words = o.words; loan = with_pages m o.list }
reply w m release_empty = let o = destroy_empty lent w in record { answer = o.answer; words = o.words; loan = m }
reply w m check = record { answer = full_check lent w; words = w; loan = m }

-- what a store stands for
pub data State : Type 0 where
  holding : Ledger → State
  closed : State

unfoldable pub if_done : {A : Type 0} → Answer → A → A → A
if_done (result v) a b = a
if_done (refused n d) a b = b

-- after a call with this answer: an accepted cut takes away the ranges that were named
unfoldable pub state_after : State → Call → Answer → State
state_after closed c a = closed
state_after (holding l) (append k x) a = holding (if_done a (ledger_append l k x) l)
state_after (holding l) (lookup q) a = holding l
state_after (holding l) (prune s e ids) a = holding (if_done a (record { start = e; ranges = drop (length ids) l.ranges }) l)
state_after (holding l) (seek_row q) a = holding l
state_after (holding l) next_leaf a = holding l
state_after (holding l) (release v) a = if_done a closed (holding l)
state_after (holding l) release_empty a = if_done a closed (holding l)
state_after (holding l) check a = holding l

abbrev pub History : Type 0
History = List (Loan × Call)

-- where a history leads
pub record Place : Type 0 where
  pub words : List ℕ
  pub state : State

-- where one begins: a store that holds a ledger
abbrev pub begin : List ℕ → Ledger → Place
begin w l = record { words = w; state = holding l }

unfoldable pub run : Place → History → Place
run p [] = p
run p ((m, c) ∷ cs) = let r = reply p.words m c in run (record { words = r.words; state = state_after p.state c r.answer }) cs
