use Prim.Native.Nat.{◌-◌, ◌≤◌}
use mathlib.Core.Path.{◌≡◌}
use Rattle.node_read.specs.Layout.{shape_of}
use Rattle.node_test.specs.Test.{first_out}
use Rattle.node_test.proofs.first_out.Given as goal

abbrev pub invariant-loop-i : goal.invariant-loop-i
invariant-loop-i l = (l.i ≤ l.count) × (first_out (shape_of l.s.layout) l.s.layout.pool l.s.words.now l.n.0 0 l.count ≡ first_out (shape_of l.s.layout) l.s.layout.pool l.s.words.now l.n.0 l.i (l.count - l.i))
