use Rattle.node_read.specs.Layout.{shape_of}
use Rattle.prune_boundary.specs.Edge.{went_of}
use Rattle.prune_boundary.specs.Trims.{trims_of}
use Rattle.prune_cut.proofs.Order.{emptied-after}
use Rattle.prune_cut.proofs.write_reset.Goals as goal

pub free_first-requires : goal.free_first-requires
free_first-requires c = c.requires.ready

pub empty_node-requires : goal.empty_node-requires
empty_node-requires c = record { n_lt_pool = rw c.free_first.ensures.kept.layout c.requires.inside }

pub returns-clause-words : goal.returns-clause-words
returns-clause-words c =
    let a = c.args in
    let C = shape_of a.s.now.layout in
    let w = a.s.now.words.now in
    rw (c.empty_node.ensures.words, c.free_first.ensures.kept.layout, c.free_first.ensures.words, c.requires.first) (emptied-after C (went_of C w (trims_of a.b.edge)) w a.root.0 a.end.0 c.requires.root-stays)
