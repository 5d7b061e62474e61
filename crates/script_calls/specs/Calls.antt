-- 01, "Script program": the memory of a script, and what each record does with it.
use Rattle.std.specs.Prelude.{ℕ, zero, suc, ◌+◌, List, [], ◌++◌, Bool, true, false, ◌&&◌, length, take, drop, replicate, leb}
use Rattle.model.specs.Words.{lent, pick, in_range, store_length}
use Rattle.model.specs.Refusals.{Answer, result, refused}
use Rattle.model.specs.Create.{create}
use Rattle.model.specs.Lookup.{try_find_row}
use Rattle.model.specs.Append.{insert_row_page}
use Rattle.model.specs.Prune.{prune_checkpoint_prefix}
use Rattle.model.specs.LeafWalk.{seek, page_entry, next_leaf_of}
use Rattle.model.specs.Release.{destroy}
use Rattle.model.specs.declared.node.PageEntry.{PageEntry}
use Rattle.model.specs.declared.cursor.RowPageIndexMemCursor.{RowPageIndexMemCursor}
use Rattle.script_text.specs.Lines.{line}
use Rattle.script_records.specs.Records.{Request, Create, Append, Find, Prune, Walk, Release, Bad}
use Rattle.answer_line.specs.Answers.{call_line, find_line, leaf_lines}
use Rattle.answer_line.specs.Names.{create_name, append_name, prune_name, release_name, bad_record_name}

-- Walks -------------------------------------------------------------------------------------------------

-- "the lists lent here always suffice": an entry takes two of the 4,096 words (proofs/Suffice: refusal 13 never comes)
abbrev pub lent_records : List PageEntry
lent_records = replicate 2048 (page_entry 0 0)

abbrev pub lent_pages : List ℕ
lent_pages = replicate 2048 0

-- The leaves from a cursor on, in at most k steps. Steps beyond the words of the store are never used, whatever the words:
-- each leaf but the last ends above the row that the walk came with, so none comes twice, and a node takes eight words
-- or more. Any larger k gives the same lines (`enough` in proofs/Bound).
unfoldable pub walk_lines : List ℕ → ℕ → RowPageIndexMemCursor → List ℕ
walk_lines w zero c = []
walk_lines w (suc k) c =
    let s = next_leaf_of lent w c lent_records in leaf_lines s.answer (walk_lines w k s.cursor)

-- Memory: "It has 4,096 words, zero at first" --------------------------------------------------------------

-- all words, and how many of them a call other than create gets: "the length of the last accepted create, or all words
-- before one"
pub record Memory : Type 0 where
  pub words : List ℕ
  pub used : ℕ

abbrev pub zeros : ℕ → Memory
zeros n = record { words = replicate n 0; used = n }

-- "a create gets the length it computes, or all of them where that is more or C or P is out of range"
unfoldable pub create_length : ℕ → ℕ → ℕ → ℕ
create_length all C P = pick (in_range C P && leb (store_length C P) all) (store_length C P) all

unfoldable pub if_accepted : Answer → ℕ → ℕ → ℕ
if_accepted (result vs) n m = n
if_accepted (refused number detail) n m = m

-- the first words are v, and those after them are as they were
abbrev pub overlaid : ℕ → List ℕ → List ℕ → List ℕ
overlaid n v w = v ++ drop n w

-- Calls ----------------------------------------------------------------------------------------------------

-- the lines of a record, the memory afterwards, and whether the script goes on
pub record Performed : Type 0 where
  pub lines : List ℕ
  pub memory : Memory
  pub goes : Bool

-- a call that leaves these words, of those it got
abbrev pub leaving : Memory → List ℕ → List ℕ → Performed
leaving m lines v =
    record { lines = lines; memory = record { words = overlaid m.used v m.words; used = m.used }; goes = true }

-- a call that changes no word
abbrev pub reading : Memory → List ℕ → Performed
reading m lines = record { lines = lines; memory = m; goes = true }

unfoldable pub perform : Memory → Request → Performed
perform m (Create C P s) =
    let n = create_length (length m.words) C P in
    let o = create lent (take n m.words) C P s in
    record {
      lines = call_line create_name o.answer;
      memory = record { words = overlaid n o.words m.words; used = if_accepted o.answer n m.used };
      goes = true;
    }
perform m (Append k x) =
    let o = insert_row_page lent (take m.used m.words) k x in leaving m (call_line append_name o.answer) o.words
perform m (Find q) = reading m (find_line (try_find_row lent (take m.used m.words) q))
perform m (Prune s e ids) =
    let o = prune_checkpoint_prefix lent (take m.used m.words) s e ids in
    leaving m (call_line prune_name o.answer) o.words
perform m (Walk q) = let w = take m.used m.words in reading m (walk_lines w (length w + 1) (seek q))
perform m (Release v) =
    let o = destroy lent (take m.used m.words) v lent_pages in
    leaving m (call_line release_name o.answer) o.words
-- "prints `bad record` and ends without the `free` line"
perform m Bad = record { lines = line bad_record_name []; memory = m; goes = false }
