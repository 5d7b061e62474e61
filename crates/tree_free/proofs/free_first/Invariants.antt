use mathlib.Core.Bool.{false}
use lib.ListN.{length, take}
use Rattle.node_read.specs.Layout.{shape_of}
use Rattle.node_read.specs.Store.{SameLoan}
use Rattle.model.specs.Words.{free_all}
use Rattle.model.specs.Reading.{root_nodes}
use Rattle.model.specs.Paths.{last_of}
use Rattle.tree_turn.specs.Left.{left}
use Rattle.tree_free.proofs.Freeing.{Freeable}
use Rattle.tree_free.proofs.free_first.Given as goal

abbrev pub invariant-loop-freed : goal.invariant-loop-freed
invariant-loop-freed l = SameLoan l.fn.s l.s × Freeable (shape_of l.fn.s.layout) l.fn.s.layout.pool l.fn.s.words.now (free_all (shape_of l.fn.s.layout) l.fn.s.words.now (take l.k (root_nodes (shape_of l.fn.s.layout) l.fn.s.words.now (last_of l.initial.path).node.0))) l.k l.freed l.s.words.now l.path

abbrev pub decreases-loop-freed : goal.decreases-loop-freed
decreases-loop-freed l = length (left false (shape_of l.fn.s.layout) l.fn.s.layout.pool l.fn.s.words.now l.path)
