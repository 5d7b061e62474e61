-- What each C function answers, and what it leaves in the arrays that it was lent: the contracts of the functions.
use Rattle.std.specs.Prelude.{ℕ, List, [], Bool, true, false, length, eqb}
use Rattle.model.specs.Words.{lent, fill}
use Rattle.model.specs.Refusals.{Answer, result, refused}
use Rattle.model.specs.Create as Create
use Rattle.model.specs.Lookup.{try_find_row}
use Rattle.model.specs.Append.{insert_row_page}
use Rattle.model.specs.Prune.{prune_checkpoint_prefix}
use Rattle.model.specs.LeafWalk as LeafWalk
use Rattle.model.specs.Release as Release
use Rattle.model.specs.FullCheck.{full_check}
use Rattle.next_words.specs.Written.{next_words_of}
use Rattle.host_cursor.specs.Cursors.{cursor_in, cursor_words, cursor_after}

-- the arrays lent to a function, but that of its answer and those that it only reads; empty where it takes none
pub record Arrays : Type 0 where
  pub words : List ℕ
  pub pages : List ℕ
  pub cursor : List ℕ
  pub records : List ℕ

abbrev pub no_arrays : Arrays
no_arrays = record { words = []; pages = []; cursor = []; records = [] }

module _ (m : Arrays) where
  abbrev pub with_words : List ℕ → Arrays
  with_words w = record { words = w; pages = m.pages; cursor = m.cursor; records = m.records }

  abbrev pub with_pages : List ℕ → Arrays
  with_pages l = record { words = m.words; pages = l; cursor = m.cursor; records = m.records }

  abbrev pub with_cursor : List ℕ → Arrays
  with_cursor c = record { words = m.words; pages = m.pages; cursor = c; records = m.records }

  abbrev pub with_records : List ℕ → Arrays
  with_records l = record { words = m.words; pages = m.pages; cursor = m.cursor; records = l }

-- what each kind of function is lent
abbrev pub on_words : List ℕ → Arrays
on_words w = with_words no_arrays w

abbrev pub on_pages : List ℕ → List ℕ → Arrays
on_pages w l = with_pages (on_words w) l

abbrev pub on_cursor : List ℕ → Arrays
on_cursor c = with_cursor no_arrays c

abbrev pub on_walk : List ℕ → List ℕ → List ℕ → Arrays
on_walk w c l = with_records (with_cursor (on_words w) c) l

-- each function, with what it takes by value or only reads
pub data Function : Type 0 where
  create : ℕ → ℕ → ℕ → Function
  append : ℕ → ℕ → Function
  find : ℕ → Function
  prune : ℕ → ℕ → List ℕ → Function
  destroy : ℕ → Function
  destroy_empty : Function
  check : Function
  seek : ℕ → Function
  next : Function

pub record Served : Type 0 where
  pub answer : Answer
  pub arrays : Arrays

abbrev pub served : Arrays → Function → Served
served m (create C P s) = let o = Create.create lent m.words C P s in record { answer = o.answer; arrays = with_words m o.words }
served m (append k x) = let o = insert_row_page lent m.words k x in record { answer = o.answer; arrays = with_words m o.words }
served m (find q) = record { answer = try_find_row lent m.words q; arrays = m }
served m (prune s e ids) = let o = prune_checkpoint_prefix lent m.words s e ids in record { answer = o.answer; arrays = with_words m o.words }
served m (destroy v) =
    let o = Release.destroy lent m.words v m.pages in
    record { answer = o.answer; arrays = with_pages (with_words m o.words) o.list }
served m destroy_empty = let o = Release.destroy_empty lent m.words in record { answer = o.answer; arrays = with_words m o.words }
served m check = record { answer = full_check lent m.words; arrays = m }
served m (seek q) = record { answer = result []; arrays = with_cursor m (fill m.cursor 0 (cursor_words (LeafWalk.seek q))) }
served m next =
    let o = next_words_of m.words (cursor_in m.cursor) m.records in
    record { answer = o.answer; arrays = with_records (with_cursor m (cursor_after m.cursor o.cursor o.answer)) o.words }

-- a lookup or a step of a walk that gives none
unfoldable pub is_none : Function → List ℕ → Bool
is_none (create C P s) l = false
is_none (append k x) l = false
is_none (find q) l = eqb (length l) 0
is_none (prune s e ids) l = false
is_none (destroy v) l = false
is_none destroy_empty l = false
is_none check l = false
is_none (seek q) l = false
is_none next l = eqb (length l) 0

-- "Nothing lent changes, cursor included": at a refusal, and at none
unfoldable pub changes_nothing : Function → Answer → Bool
changes_nothing f (result l) = is_none f l
changes_nothing f (refused n d) = true
