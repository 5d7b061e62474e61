use mathlib.Core.Path.{refl}
use Rattle.script_calls.proofs.Performing.{prunes}
use Rattle.script_prune.proofs.prune_step.Goals as goal

pub returns : goal.returns
returns c =
    let x = c.args in
    let r = c.prune_checkpoint_prefix-a.ensures in
    let e = c.copy_ids-k.ensures.is in
    prunes x.m.now _ x.out.now _ refl _ _ c.prune_checkpoint_prefix-a.auto.s refl refl x.start x.end _ (rw e at r.answer) (rw e at r.words) c.put_answer.ensures
