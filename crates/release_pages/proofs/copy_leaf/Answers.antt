use Prim.Native.Nat.{◌+◌}
use mathlib.Core.Path.{◌∙◌}
use lib.ListN.{length-set}
use Rattle.node_read.specs.Layout.{shape_of}
use Rattle.release_pages.proofs.Filling.{fill_more}
use Rattle.release_pages.proofs.copy_leaf.Goals as goal

pub loop-i-preserved : goal.loop-i-preserved
loop-i-preserved c =
    let a = c.args in
    let x = c.loop-i in
    rw c.page.ensures (x.invariant.0 ∙ fill_more (shape_of a.s.layout) a.s.words.now a.n.0 x.pages a.at x.i _ c.loop-i-test.true, length-set x.pages (a.at + x.i) _ ∙ x.invariant.1)
