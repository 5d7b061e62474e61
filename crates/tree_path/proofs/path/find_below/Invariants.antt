use mathlib.Core.Path.{◌≡◌}
use Rattle.node_read.specs.Layout.{shape_of}
use Rattle.model.specs.Reading.{descend, to_row}
use Rattle.node_test.specs.Test.{limit_of}
use Rattle.tree_path.proofs.path.find_below.Given as goal

abbrev pub invariant-loop-below : goal.invariant-loop-below
invariant-loop-below l = descend (to_row (shape_of l.s.layout) l.s.words.now l.sought.0) (shape_of l.s.layout) l.s.layout.pool l.s.words.now l.height l.initial.parent.0 l.initial.n.0 l.initial.r.0 (limit_of l.initial.next)
    ≡ descend (to_row (shape_of l.s.layout) l.s.words.now l.sought.0) (shape_of l.s.layout) l.s.layout.pool l.s.words.now l.below l.parent.0 l.n.0 l.r.0 (limit_of l.next)
