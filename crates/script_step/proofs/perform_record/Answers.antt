use mathlib.Core.Path.{refl}
use Rattle.script_create.proofs.Performed.{performed}
use Rattle.script_step.proofs.perform_record.Goals as goal

pub returns-in-Some : goal.returns-in-Some
returns-in-Some c =
    let a = c.args in
    let w = c.in-Create in
    rw w.is (performed a.m.now _ a.out.now _ w.capacity w.nodes w.start _ refl c.create_step-used.auto.words c.in-Some.ensures.does refl)

pub returns-in_default : goal.returns-in_default
returns-in_default c =
    let a = c.args in
    let w = c.in-Create in
    rw w.is (performed a.m.now _ a.out.now _ w.capacity w.nodes w.start _ refl c.create_step-used.auto.words c.in_default.ensures.does refl)
