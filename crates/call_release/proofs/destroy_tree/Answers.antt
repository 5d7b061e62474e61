use Rattle.node_read.specs.Layout.{shape_of}
use Rattle.tree_free.proofs.Root.{ready}
use Rattle.call_release.proofs.destroy_tree.Goals as goal

pub free_first-requires : goal.free_first-requires
free_first-requires c =
    let a = c.args in
    let l = a.s.now.layout in
    let p = c.requires in
    ready (shape_of l) l.pool a.s.now.words.now a.root.0 p.releasable.inside p.releasable.header p.releasable.sound a.k p.k_value.0 p.releasable.room
