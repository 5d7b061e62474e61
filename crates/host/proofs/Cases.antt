-- A host's cursor and its steps, by computation over the definitions.
use mathlib.Core.Path.{◌≡◌, refl}
use Rattle.model.specs.LeafWalk.{records, gives_leaf, is_last, given, next_leaf_of}
use Rattle.model.specs.Reading.{next_row, checked, descend, root_leaf, last_not_above}
use Rattle.model.specs.Refusals.{header_ok}
use Rattle.model.specs.Tree.{pairs_from, rising, first_row, last_row, meets, end_sound, sound, empty_root}
use Rattle.model.specs.Words.{stands, word_place, part, fill}
use Rattle.answer_numbers.specs.Numbers.{answer_words}
use Rattle.next_words.specs.Written.{record_words, records_in}
use Rattle.host.specs.Cases.{read_words, read_cursors, written_words, written_expected, steps, steps_expected}

pub cursors_read : read_words ≡ read_cursors
cursors_read = refl

pub cursors_written : written_words ≡ written_expected
unfolding fill gives_leaf
cursors_written = refl

pub steps_served : steps ≡ steps_expected
unfolding records gives_leaf is_last given next_leaf_of next_row checked descend root_leaf last_not_above header_ok pairs_from rising first_row last_row meets end_sound sound empty_root stands word_place part fill answer_words record_words records_in
steps_served = refl
