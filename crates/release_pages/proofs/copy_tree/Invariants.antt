use mathlib.Core.Bool.{false}
use mathlib.Core.Path.{◌≡◌}
use lib.ListN.{length}
use Rattle.node_read.specs.Layout.{shape_of}
use Rattle.model.specs.Words.{fill}
use Rattle.model.specs.Reading.{page_ids, root_entries}
use Rattle.model.specs.Paths.{last_of}
use Rattle.tree_turn.specs.Left.{left}
use Rattle.release_pages.proofs.Taking.{Taking}
use Rattle.release_pages.proofs.copy_tree.Given as goal

abbrev pub invariant-loop-path : goal.invariant-loop-path
invariant-loop-path l = Taking (shape_of l.s.layout) l.s.layout.pool l.s.words.now (fill l.initial.pages 0 (page_ids (root_entries (shape_of l.s.layout) l.s.words.now (last_of l.initial.path).node.0))) l.path l.pages l.place × (length l.pages ≡ length l.initial.pages)

abbrev pub decreases-loop-path : goal.decreases-loop-path
decreases-loop-path l = length (left false (shape_of l.s.layout) l.s.layout.pool l.s.words.now l.path)
