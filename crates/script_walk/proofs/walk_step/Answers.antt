use Rattle.script_calls.proofs.Performing.{walks}
use Rattle.script_walk.proofs.walk_step.Goals as goal

pub returns : goal.returns
returns c = let x = c.args in walks x.m.now x.out.now _ x.row (rw c.sought-cursor.ensures at c.walk_on.ensures)
