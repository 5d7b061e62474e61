use Rattle.answer_numbers.proofs.Encoding.{encodes_values}
use Rattle.answer_numbers.proofs.Numbers.of.Goals as goal

pub returns : goal.returns
returns g c = encodes_values g.row.N _ _ c.requires c.copy_from_slice.ensures.after c.copy_from_slice.ensures.len
