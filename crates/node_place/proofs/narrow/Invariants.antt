use Prim.Native.Nat.{◌-◌}
use Rattle.node_read.specs.Layout.{shape_of}
use Rattle.node_place.proofs.Places.{Looked}
use Rattle.node_place.proofs.narrow.Given as goal

abbrev pub invariant-loop-i : goal.invariant-loop-i
invariant-loop-i l = Looked (shape_of l.s.layout) l.s.words.now l.q.0 l.n.0 l.count l.step l.place l.i

abbrev pub decreases-loop-i : goal.decreases-loop-i
decreases-loop-i l = l.count - l.i
