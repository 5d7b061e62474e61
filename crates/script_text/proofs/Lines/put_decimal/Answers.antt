use mathlib.Core.Path.{◌∙◌}
use native.Mathlib.Omega.{arith}
use Rattle.script_text.proofs.Decimal.{spells}
use Rattle.script_text.proofs.Lines.put_decimal.Goals as goal

pub returns : goal.returns
returns c =
    let d = c.decimal-k in
    let e = d.ensures.digits ∙ spells d.result c.args.n (omega arith) d.ensures.len in
    rw e at c.put_bytes.ensures
