use borrow.Author.Rules.{rules}
use Prim.Native.Nat.{◌-◌}
use mathlib.Core.List.{reverse}
use mathlib.Core.Path.{◌≡◌, sym, ap, ◌∙◌}
use native.Mathlib.Omega.{arith}
use lib.ListN.{get_or}
use Rattle.model.specs.Words.{free_all}
use Rattle.model.proofs.Writes.{freed-count}
use Rattle.node_read.specs.Layout.{shape_of}
use Rattle.node_chain.specs.Chain.{listed}
use Rattle.prune_write.specs.Nodes.{AllIn}
use Rattle.prune_write.proofs.Turns.{free-last}
use Rattle.prune_write.proofs.free_copied.Goals as goal

pub free_node-requires : goal.free_node-requires
unfolding AllIn
free_node-requires c = record { n_lt_pool = (rw c.loop-i.invariant.0.layout (c.requires.free_bound.0 _ (omega arith)), omega (arith, c.loop-i.invariant.1)) }

pub loop-i-preserved : goal.loop-i-preserved
loop-i-preserved c =
    let l = c.args.s.now.layout in
    let w = c.loop-i.s.words.now in
    let e = rw c.loop-i.invariant.0.layout at c.free_node.ensures.words in
    let f = rw c.loop-i.invariant.0.layout at c.loop-i.s.fits in (
      search rules,
      rw e (omega (arith, c.loop-i.invariant.1, freed-count (shape_of l) w (get_or c.args.nodes.now (c.loop-i.i - 1) (record { 0 = 0 })).0 l.pool f)),
      c.loop-i.invariant.2 ∙ free-last _ w _ c.loop-i.i c.loop-i-test.true ∙ rw e,
    )

pub returns-clause-words : goal.returns-clause-words
unfolding free_all listed
returns-clause-words c =
    let z : c.loop-i.i ≡ 0 = omega arith in
    sym (c.loop-i.invariant.2 ∙ ap (λ j. free_all (shape_of c.args.s.now.layout) c.loop-i.s.words.now (reverse (listed c.args.nodes.now 0 j))) z)
