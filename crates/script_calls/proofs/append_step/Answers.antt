use mathlib.Core.Path.{refl}
use Rattle.script_calls.proofs.Performing.{appends}
use Rattle.script_calls.proofs.append_step.Goals as goal

pub returns : goal.returns
returns c =
    let x = c.args in
    let r = c.insert_row_page-a.ensures in
    appends x.m.now _ x.out.now _ refl _ _ c.insert_row_page-a.auto.s refl refl x.count x.page r.answer r.words c.put_answer.ensures
