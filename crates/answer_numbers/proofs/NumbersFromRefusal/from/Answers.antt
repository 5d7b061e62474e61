use Rattle.answer_numbers.proofs.Encoding.{encodes_refusal}
use Rattle.answer_numbers.proofs.NumbersFromRefusal.from.Goals as goal

pub returns : goal.returns
returns c = encodes_refusal c.args.r _ _ c.from-number.ensures
