use borrow.Author.Rules.{rules}
use mathlib.Core.Path.{◌∙◌}
use Rattle.model.specs.Create.{chained}
use Rattle.node_write.proofs.Turns.{turn}
use Rattle.call_create.proofs.link_nodes.Goals as goal

pub loop-n-preserved : goal.loop-n-preserved
unfolding chained
loop-n-preserved c =
    let e = rw (c.put.ensures.words, c.put.ensures.kept.layout, c.loop-n.invariant.0.layout) at c.put-in-loop-n.ensures.words in
    (search rules, c.loop-n.invariant.1 ∙ turn (chained _ _ _) _ _ c.loop-n-test.true ∙ rw e)
