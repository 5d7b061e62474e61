use Prim.Native.Nat.{◌+◌, ◌≤◌}
use mathlib.Core.List.{reverse}
use mathlib.Core.Path.{◌≡◌}
use lib.ListN.{length}
use Rattle.model.specs.Words.{free_all, free_count}
use Rattle.node_read.specs.Layout.{shape_of}
use Rattle.node_read.specs.Store.{SameLoan}
use Rattle.node_chain.specs.Chain.{listed}
use Rattle.prune_write.proofs.free_copied.Given as goal

abbrev pub invariant-loop-i : goal.invariant-loop-i
invariant-loop-i l = SameLoan l.fn.s l.s × (free_count l.s.words.now + l.i ≤ 65535) × (free_all (shape_of l.fn.s.layout) l.fn.s.words.now (reverse (listed l.nodes 0 (length l.nodes))) ≡ free_all (shape_of l.fn.s.layout) l.s.words.now (reverse (listed l.nodes 0 l.i)))
