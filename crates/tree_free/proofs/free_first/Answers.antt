use mathlib.Core.Path.{refl, sym, ◌∙◌}
use native.Mathlib.Omega.{arith}
use Rattle.node_read.specs.Layout.{shape_of}
use Rattle.tree_free.proofs.Freeing.{enough, some_depth, last_in_lem, less-out, less_in, room_in}
use Rattle.tree_free.proofs.Root.{start-freeing}
use Rattle.tree_free.proofs.free_first.Goals as goal

pub loop-freed-init : goal.loop-freed-init
loop-freed-init c =
    let a = c.args in
    let l = a.s.now.layout in
    (record { layout = refl; reference = refl }, rw c.rooted-path.ensures (start-freeing (shape_of l) l.pool a.s.now.words.now a.root.0 a.k c.requires))

pub last-top-requires : goal.last-top-requires
last-top-requires c = let f = c.loop-freed.invariant.1 in (some_depth f c.loop-freed-test.true, omega (arith, f.long))

pub untested-requires : goal.untested-requires
untested-requires c = record { node_lt_pool = rw (c.last-top.ensures, c.read.ensures.layout, c.read.ensures.words, c.loop-freed.invariant.0.layout) (last_in_lem c.loop-freed.invariant.1 c.loop-freed-test.true) }

pub free_node-requires : goal.free_node-requires
free_node-requires c =
    let f = c.loop-freed.invariant.1 in
    record { n_lt_pool = (rw (c.last-top.ensures, c.loop-freed.invariant.0.layout) (last_in_lem f c.loop-freed-test.true).0, omega (arith, f.room, f.many)) }

pub loop-freed-smaller-in-None : goal.loop-freed-smaller-in-None
loop-freed-smaller-in-None c = rw c.leave.ensures (less-out c.loop-freed.invariant.1 c.loop-freed-test.true (sym c.in-None.is ∙ rw (c.last-top.ensures, c.read.ensures.layout, c.read.ensures.words, c.loop-freed.invariant.0.layout) at c.untested.ensures))

pub leave-requires : goal.leave-requires
leave-requires c = some_depth c.loop-freed.invariant.1 c.loop-freed-test.true

pub enter-requires : goal.enter-requires
enter-requires c =
    let f = c.loop-freed.invariant.1 in
    let r = room_in f c.loop-freed-test.true _ (sym c.in-Some.is ∙ rw (c.last-top.ensures, c.read.ensures.layout, c.read.ensures.words, c.loop-freed.invariant.0.layout) at c.untested.ensures) in
    record { depth = (some_depth f c.loop-freed-test.true, omega (arith, r.0, f.long)); index = omega (arith, r.1, f.header.cap-high) }

pub loop-freed-smaller : goal.loop-freed-smaller
loop-freed-smaller c = rw c.enter.ensures (less_in c.loop-freed.invariant.1 c.loop-freed-test.true _ (sym c.in-Some.is ∙ rw (c.last-top.ensures, c.read.ensures.layout, c.read.ensures.words, c.loop-freed.invariant.0.layout) at c.untested.ensures))

pub returns-clause-words : goal.returns-clause-words
returns-clause-words c = rw c.rooted-path.ensures at (enough c.loop-freed.invariant.1 c.loop-freed-test.false)
