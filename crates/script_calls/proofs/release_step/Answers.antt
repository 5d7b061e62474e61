use mathlib.Core.Path.{refl}
use Rattle.script_calls.proofs.Performing.{releases}
use Rattle.script_calls.proofs.release_step.Goals as goal

pub returns : goal.returns
returns c =
    let x = c.args in
    let r = c.destroy-a.ensures in
    releases x.m.now _ x.out.now _ refl _ _ c.destroy-a.auto.s refl refl x.pivot r.answer r.words c.put_answer.ensures
