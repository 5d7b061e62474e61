use Prim.Native.Nat.{◌-◌}
use mathlib.Core.Path.{◌≡◌}
use Rattle.model.specs.Create.{chained}
use Rattle.node_read.specs.Layout.{shape_of}
use Rattle.node_read.specs.Store.{SameLoan}
use Rattle.call_create.proofs.link_nodes.Given as goal

abbrev pub invariant-loop-n : goal.invariant-loop-n
invariant-loop-n l = SameLoan l.fn.s l.s × (chained (shape_of l.fn.s.layout) l.fn.s.words.now 1 (l.fn.s.layout.pool - 1) ≡ chained (shape_of l.fn.s.layout) l.s.words.now l.n (l.fn.s.layout.pool - l.n))
