use Rattle.script_text.proofs.Putting.{then}
use Rattle.script_text.proofs.Lines.put_number.Goals as goal

pub returns : goal.returns
returns c = then c.put_byte.ensures c.put_decimal.ensures
