use native.Mathlib.Omega.{arith}
use borrow.Author.Tests.{eqb-false}
use Rattle.std.proofs.Common.{sym, ◌∙◌}
use Rattle.node_read.specs.Layout.{shape_of}
use Rattle.tree_survey.proofs.WithEnds.{start-both, both-up, both-down}
use Rattle.tree_survey.proofs.survey_below.Goals as goal

pub loop-walk-init : goal.loop-walk-init
loop-walk-init c = let a = c.args in rw c.rooted-walk.ensures (start-both (shape_of a.s.layout) a.s.layout.pool a.s.words.now a.node.0 a.first _ _ c.requires.valid c.requires.first_value)

pub loop-walk-preserved-in-Ok-None : goal.loop-walk-preserved-in-Ok-None
loop-walk-preserved-in-Ok-None c = both-up c.loop-walk.invariant (omega (arith, eqb-false _ _ (sym c.is_over.ensures ∙ c.loop-walk-test.true))) (rw c.in-Ok-None.field-0-is at c.in-Ok-None.ensures)

pub loop-walk-preserved : goal.loop-walk-preserved
loop-walk-preserved c =
    rw (c.look_at_end-wrong.ensures, c.count_node-counts.ensures)
    (both-down c.loop-walk.invariant (omega (arith, eqb-false _ _ (sym c.is_over.ensures ∙ c.loop-walk-test.true))) _ (rw c.in-Ok-Some.field-0-is at c.in-Ok-Some.ensures))
