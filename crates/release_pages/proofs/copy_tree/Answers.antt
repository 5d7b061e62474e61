use mathlib.Core.Path.{refl, sym, ◌∙◌}
use native.Mathlib.Omega.{arith}
use Rattle.node_read.specs.Layout.{shape_of}
use Rattle.model.proofs.Fill.{length-fill}
use Rattle.tree_turn.proofs.Turns.{sure, at_top, step_room, step-short}
use Rattle.release_pages.proofs.Taking.{start-taking, all-taken, leaf_room, takes_out, takes_in}
use Rattle.release_pages.proofs.copy_tree.Goals as goal

pub loop-path-init : goal.loop-path-init
loop-path-init c = let a = c.args in rw c.rooted-path.ensures (start-taking (shape_of a.s.layout) a.s.layout.pool a.s.words.now a.node.0 a.pages.now c.requires.releasable c.requires.node_in_bounds, refl)

pub untested-requires : goal.untested-requires
untested-requires c = let t = at_top (sure c.loop-path.invariant.0.walk) c.loop-path-test.true in record { node_lt_pool = rw c.last-top.ensures (t.inside, t.narrow) }

pub copy_leaf-place-requires : goal.copy_leaf-place-requires
copy_leaf-place-requires c =
    let x = c.loop-path.invariant.0 in
    let z = c.loop-path-test.true in
    let t = at_top (sure x.walk) z in
    record { n_lt_pool = rw c.last-top.ensures (t.inside, t.narrow, leaf_room x z (sym c.in-None.is ∙ rw c.last-top.ensures at c.untested.ensures)) }

pub loop-path-smaller-in-None : goal.loop-path-smaller-in-None
loop-path-smaller-in-None c = rw c.leave.ensures (takes_out c.loop-path.invariant.0 c.loop-path-test.true (sym c.in-None.is ∙ rw c.last-top.ensures at c.untested.ensures)).less

pub loop-path-preserved-in-None : goal.loop-path-preserved-in-None
loop-path-preserved-in-None c =
    let x = c.loop-path in
    rw (c.leave.ensures, c.copy_leaf-place.ensures.after, c.copy_leaf-place.ensures.list, c.last-top.ensures)
    ((takes_out x.invariant.0 c.loop-path-test.true (sym c.in-None.is ∙ rw c.last-top.ensures at c.untested.ensures)).taking, length-fill x.pages x.place _ ∙ x.invariant.1)

pub enter-requires : goal.enter-requires
enter-requires c =
    let x = sure c.loop-path.invariant.0.walk in
    let z = c.loop-path-test.true in
    let e = sym c.in-Some.is ∙ rw c.last-top.ensures at c.untested.ensures in
    record { depth = (z, step_room x z e); index = omega (arith, step-short x z e, c.requires.releasable.header.cap-high) }

pub loop-path-smaller : goal.loop-path-smaller
loop-path-smaller c = rw c.enter.ensures (takes_in c.loop-path.invariant.0 c.loop-path-test.true (sym c.in-Some.is ∙ rw c.last-top.ensures at c.untested.ensures)).less

pub loop-path-preserved : goal.loop-path-preserved
loop-path-preserved c = rw c.enter.ensures ((takes_in c.loop-path.invariant.0 c.loop-path-test.true (sym c.in-Some.is ∙ rw c.last-top.ensures at c.untested.ensures)).taking, c.loop-path.invariant.1)

pub returns : goal.returns
returns c = all-taken (rw c.rooted-path.ensures at c.loop-path.invariant.0) (omega (arith, c.loop-path-test.false))
