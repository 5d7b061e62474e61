use Rattle.script_calls.proofs.Performing.{finds}
use Rattle.script_calls.proofs.find_step.Goals as goal

pub returns : goal.returns
returns c = let x = c.args in finds x.m.now x.out.now _ x.row _ c.try_find_row-a.ensures c.put_answer.ensures
