-- The scripts of specs/Example, by computation over the definitions.
use mathlib.Core.Path.{◌≡◌, refl}
use mathlib.Core.List.{map}
use Rattle.model.specs.Append.{append_start, room_from, room, firsts, past, chain_sound, taken, fresh, top_of, end_over, new_path, hang, raised, split_root, append_at, append_to, insert_row_page}
use Rattle.model.specs.Create.{chained, new_store, create}
use Rattle.model.specs.Cut.{if_gone, keep, cut_pairs, trim, cut, went_pairs, went, trims_pairs, trims, kept}
use Rattle.model.specs.LeafWalk.{records, gives_leaf, is_last, given, next_leaf_of}
use Rattle.model.specs.Lookup.{found_in, find_in_tree, try_find_row}
use Rattle.model.specs.Prune.{moved, trimmed, trim_all, copy_all, prune_tree, against, entry_end, scan_leaf, spoilt, scan, ran_out, before, at_last, copies_from, root_copies, prune_with, prune_scanned, prune_root, prune_checkpoint_prefix}
use Rattle.model.specs.Reading.{end_fits, passes, visits, root_visits, first_bad, entries, in_pairs, nodes, occ, next_row, checked, descend, root_leaf, last_not_above}
use Rattle.model.specs.Refusals.{header_ok}
use Rattle.model.specs.Release.{first_low, released_words, destroy}
use Rattle.model.specs.Tree.{pairs_from, rising, first_row, last_row, meets, end_sound, sound, empty_root, root_sound, level, next, last, over_pairs}
use Rattle.model.specs.Words.{stands, word_place, part, put, emptied, added, copy_from, copied, freed, free_all, fill}
use Rattle.script_text.specs.Lines.{digits_of, decimal, numbers, line}
use Rattle.script_records.specs.Records.{little, words_in, request_of, asked, whole, first}
use Rattle.answer_line.specs.Answers.{answer_line}
use Rattle.script_calls.specs.Calls.{walk_lines, create_length, if_accepted, perform}
use Rattle.script_step.specs.Script.{listing_from, listing_of, listing}
use Rattle.script_example.specs.Example.{bytes, word_bytes, Case, cases}

pub computed : map (λ (c : Case). listing c.0) cases ≡ map (λ (c : Case). c.1) cases
unfolding append_start room_from room firsts past chain_sound taken fresh top_of end_over new_path hang raised split_root append_at append_to insert_row_page chained new_store create if_gone keep cut_pairs trim cut went_pairs went trims_pairs trims kept records gives_leaf is_last given next_leaf_of found_in find_in_tree try_find_row moved trimmed trim_all copy_all prune_tree against entry_end scan_leaf spoilt scan ran_out before at_last copies_from root_copies prune_with prune_scanned prune_root prune_checkpoint_prefix end_fits passes visits root_visits first_bad entries in_pairs nodes occ next_row checked descend root_leaf last_not_above header_ok first_low released_words destroy pairs_from rising first_row last_row meets end_sound sound empty_root root_sound level next last over_pairs stands word_place part put emptied added copy_from copied freed free_all fill digits_of decimal numbers line little words_in request_of asked whole answer_line walk_lines create_length if_accepted perform first listing_from listing_of bytes word_bytes
computed = refl
