use Rattle.std.proofs.Common.{◌≤◌}
use Rattle.store_picture.proofs.walk.BelowIterator.next.Given as goal

abbrev pub invariant-loop-self : goal.invariant-loop-self
invariant-loop-self l = l.self.turns ≤ l.initial.self.turns

abbrev pub decreases-loop-self : goal.decreases-loop-self
decreases-loop-self l = l.self.turns
