use borrow.Author.Rules.{rules}
use mathlib.Core.Path.{◌∙◌}
use Rattle.model.specs.Words.{copy_from}
use Rattle.node_write.proofs.Turns.{turn}
use Rattle.node_copy.proofs.copy_node.Goals as goal

pub loop-j-preserved : goal.loop-j-preserved
unfolding copy_from
loop-j-preserved c =
    let e = rw (c.part-x.ensures, c.read.ensures.layout, c.read.ensures.words, c.loop-j.invariant.0.layout) at c.put.ensures.words in
    (search rules, c.loop-j.invariant.1 ∙ turn (copy_from _ _ _ _ _) _ _ c.loop-j-test.true ∙ rw e)
