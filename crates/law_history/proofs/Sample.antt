-- Histories of 01's example (create 2 16 0, five appends of 10 rows with pages 1 to 5), computed: the state beside the
-- words is the ledger that 01's answers tell.
use Prim.Native.Nat.{ℕ}
use mathlib.Core.Path.{◌≡◌, refl}
use mathlib.Core.List.{List, [], ◌∷◌}
use lib.ListN.{replicate}
use Rattle.model.specs.Append.{append_start, room_from, room, firsts, past, chain_sound, taken, fresh, top_of, end_over, new_path, hang, raised, split_root, append_at, append_to, insert_row_page}
use Rattle.model.specs.Create.{chained, new_store, create}
use Rattle.model.specs.Cut.{if_gone, keep, cut_pairs, trim, cut, went_pairs, went, trims_pairs, trims, kept}
use Rattle.model.specs.Ledger.{Range, empty_ledger, end_from, ledger_end, ledger_append}
use Rattle.model.specs.Lookup.{found_in, find_in_tree, try_find_row}
use Rattle.model.specs.Prune.{moved, trimmed, trim_all, copy_all, prune_tree, against, entry_end, scan_leaf, spoilt, scan, ran_out, before, at_last, copies_from, root_copies, prune_with, prune_scanned, prune_root, prune_checkpoint_prefix}
use Rattle.model.specs.Reading.{end_fits, passes, visits, root_visits, first_bad, entries, in_pairs, nodes, occ, next_row, checked, descend, root_leaf, last_not_above}
use Rattle.model.specs.Refusals.{header_ok}
use Rattle.model.specs.Release.{first_low, released_words, destroy}
use Rattle.model.specs.Tree.{pairs_from, rising, first_row, last_row, meets, end_sound, sound, empty_root, root_sound, level, next, last, over_pairs}
use Rattle.model.specs.Words.{lent, stands, word_place, part, put, emptied, added, copy_from, copied, freed, free_all, fill}
use Rattle.law_history.specs.Calls.{Loan, no_loan, with_pages, Call, append, lookup, prune, seek_row, release, reply, State, holding, closed, if_done, state_after, History, Place, begin, run}

-- room for five page ids
abbrev some : Loan
some = with_pages no_loan (replicate 5 9)

abbrev new : Place
new = begin (create lent (replicate 136 7) 2 16 0).words (empty_ledger 0)

-- the state after the calls
abbrev after : List Call → State
after cs = (run new (each cs)).state
  where
    each : List Call → History
    each [] = []
    each (c ∷ cs) = (some, c) ∷ each cs

abbrev five : List Call → List Call
five cs = append 10 1 ∷ append 10 2 ∷ append 10 3 ∷ append 10 4 ∷ append 10 5 ∷ cs

abbrev range : ℕ → ℕ → Range
range e x = record { end = e; page = x }

-- a prune is refused, another is accepted; lookups and seeks change nothing
pub cut-at_twenty : after (five (prune 0 20 (1 ∷ 3 ∷ []) ∷ prune 0 20 (1 ∷ 2 ∷ []) ∷ lookup 20 ∷ seek_row 5 ∷ [])) ≡ holding (record { start = 20; ranges = range 30 3 ∷ range 40 4 ∷ range 50 5 ∷ [] })
unfolding append_start room_from room firsts past chain_sound taken fresh top_of end_over new_path hang raised split_root append_at append_to insert_row_page chained new_store create if_gone keep cut_pairs trim cut went_pairs went trims_pairs trims kept end_from ledger_end ledger_append found_in find_in_tree try_find_row moved trimmed trim_all copy_all prune_tree against entry_end scan_leaf spoilt scan ran_out before at_last copies_from root_copies prune_with prune_scanned prune_root prune_checkpoint_prefix end_fits passes visits root_visits first_bad entries in_pairs nodes occ next_row checked descend root_leaf last_not_above header_ok pairs_from rising first_row last_row meets end_sound sound empty_root root_sound level next last over_pairs stands word_place part put emptied added copy_from copied freed free_all fill reply if_done state_after run
cut-at_twenty = refl

-- a release is refused, another is accepted, and the store is closed from there on
pub released : after (five (release 1 ∷ release 0 ∷ append 10 6 ∷ [])) ≡ closed
unfolding append_start room_from room firsts past chain_sound taken fresh top_of end_over new_path hang raised split_root append_at append_to insert_row_page chained new_store create end_from ledger_end ledger_append end_fits passes visits root_visits first_bad entries in_pairs nodes occ next_row checked descend root_leaf last_not_above header_ok first_low released_words destroy pairs_from rising first_row last_row meets end_sound sound empty_root root_sound level next last over_pairs stands word_place part put emptied added copy_from copied freed free_all fill reply if_done state_after run
released = refl
