use mathlib.Core.Bool.{true, false}
use lib.ListN.{length}
use Rattle.node_read.specs.Layout.{shape_of}
use Rattle.model.specs.Paths.{last_of}
use Rattle.tree_turn.specs.Left.{below, left}
use Rattle.tree_tally.specs.Tally.{tally}
use Rattle.tree_survey.specs.Ends.{with_ends, wrong_of}
use Rattle.tree_survey.proofs.WithEnds.{Both}
use Rattle.tree_survey.proofs.survey_below.Given as goal

abbrev pub invariant-loop-walk : goal.invariant-loop-walk
invariant-loop-walk l = Both (shape_of l.s.layout) l.s.layout.pool l.s.words.now (tally (shape_of l.s.layout) l.s.words.now (below false (shape_of l.s.layout) l.s.layout.pool l.s.words.now (last_of l.initial.walk.path).node.0) l.initial.counts) (with_ends (wrong_of l.s.layout.pool l.initial.wrong.0) (tally (shape_of l.s.layout) l.s.words.now (below true (shape_of l.s.layout) l.s.layout.pool l.s.words.now (last_of l.initial.walk.path).node.0) l.initial.counts)) l.walk l.counts (wrong_of l.s.layout.pool l.wrong.0)

abbrev pub decreases-loop-walk : goal.decreases-loop-walk
decreases-loop-walk l = length (left false (shape_of l.s.layout) l.s.layout.pool l.s.words.now l.walk.path)
