-- The calls on damaged stores, by computation over the definitions.
use mathlib.Core.Path.{◌≡◌, refl}
use mathlib.Core.List.{[]}
use Rattle.model.specs.Append.{append_start, room_from, room, firsts, past, chain_sound, taken, fresh, top_of, end_over, new_path, hang, raised, split_root, append_at, append_to, insert_row_page}
use Rattle.model.specs.Create.{chained, new_store, create}
use Rattle.model.specs.Cut.{if_gone, keep, cut_pairs, trim, cut, went_pairs, went, trims_pairs, trims, kept}
use Rattle.model.specs.FullCheck.{chain_ends, full_check}
use Rattle.model.specs.LeafWalk.{records, is_last, given, next_leaf_of}
use Rattle.model.specs.Lookup.{found_in, find_in_tree, try_find_row}
use Rattle.model.specs.Prune.{moved, trimmed, trim_all, copy_all, prune_tree, against, entry_end, scan_leaf, spoilt, scan, ran_out, before, at_last, copies_from, root_copies, prune_with, prune_scanned, prune_root, prune_checkpoint_prefix}
use Rattle.model.specs.Reading.{end_fits, passes, visits, root_visits, first_bad, entries, in_pairs, nodes, occ, next_row, checked, descend, root_leaf, last_not_above}
use Rattle.model.specs.Refusals.{header_ok}
use Rattle.model.specs.Release.{first_low, released_words, destroy, destroy_empty}
use Rattle.model.specs.Tree.{pairs_from, rising, first_row, last_row, meets, end_sound, sound, empty_root, root_sound, level, next, last, over_pairs}
use Rattle.model.specs.Words.{stands, word_place, part, put, emptied, added, copy_from, copied, freed, free_all, fill}
use Rattle.case_table.specs.Run.{walk_answers, shapes, run, answers_from, expected}
use Rattle.case_table.specs.Damaged.{damaged}

pub on_damaged : answers_from [] damaged ≡ expected damaged
unfolding append_start room_from room firsts past chain_sound taken fresh top_of end_over new_path hang raised split_root append_at append_to insert_row_page chained new_store create if_gone keep cut_pairs trim cut went_pairs went trims_pairs trims kept chain_ends full_check records is_last given next_leaf_of found_in find_in_tree try_find_row moved trimmed trim_all copy_all prune_tree against entry_end scan_leaf spoilt scan ran_out before at_last copies_from root_copies prune_with prune_scanned prune_root prune_checkpoint_prefix end_fits passes visits root_visits first_bad entries in_pairs nodes occ next_row checked descend root_leaf last_not_above header_ok first_low released_words destroy destroy_empty pairs_from rising first_row last_row meets end_sound sound empty_root root_sound level next last over_pairs stands word_place part put emptied added copy_from copied freed free_all fill walk_answers shapes run answers_from
on_damaged = refl
