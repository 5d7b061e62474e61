-- The records before i hold their entries.
use Rattle.std.proofs.Common.{◌≡◌, ◌≤◌}
use Rattle.node_read.specs.Layout.{shape_of}
use Rattle.next_records.proofs.Filling.{upto}
use Rattle.next_records.proofs.copy_out.Given as goal

abbrev pub invariant-loop-i : goal.invariant-loop-i
invariant-loop-i l = (l.i ≤ l.e.count) × (l.list ≡ upto (shape_of l.e.layout) l.s l.e.leaf.0 l.fn.list l.i)
