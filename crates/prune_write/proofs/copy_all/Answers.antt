use borrow.Author.Rules.{rules}
use mathlib.Core.Path.{sym, ap, ◌∙◌}
use Rattle.model.specs.Prune.{copy_all}
use Rattle.node_chain.specs.Chain.{listed}
use Rattle.node_write.proofs.Turns.{turn, stop}
use Rattle.prune_write.specs.Nodes.{AllIn}
use Rattle.prune_write.proofs.copy_all.Goals as goal

pub copy_node-requires : goal.copy_node-requires
unfolding AllIn
copy_node-requires c = record { from_lt_pool = rw c.loop-n.invariant.0.layout (c.requires.root_lt_pool.1 c.loop-n.n-index c.loop-n-test.true, c.requires.root_lt_pool.0) }

pub loop-n-preserved : goal.loop-n-preserved
unfolding copy_all listed
loop-n-preserved c =
    let e = rw c.loop-n.invariant.0.layout at c.copy_node.ensures.words in
    (search rules, c.loop-n.invariant.1 ∙ ap (copy_all _ c.loop-n.s.words.now _) (turn (listed _ c.loop-n.n-index) _ _ c.loop-n-test.true) ∙ rw e)

pub returns-clause-words : goal.returns-clause-words
unfolding copy_all listed
returns-clause-words c = sym (c.loop-n.invariant.1 ∙ ap (copy_all _ c.loop-n.s.words.now _) (stop (listed _ c.loop-n.n-index) _ _ c.loop-n-test.false))
