use mathlib.Core.Path.{◌≡◌, sym, ◌∙◌, ap}
use native.Mathlib.Omega.{arith}
use Rattle.node_read.specs.Layout.{shape_of}
use Rattle.model.specs.declared.node.RowPageIndexNodeHeader.{RowPageIndexNodeHeader}
use Rattle.node_test.specs.Test.{limit_of}
use Rattle.std.specs.Prelude.{Some, None}
use Rattle.tree_turn.proofs.Tests.{tested, enters, stays, branch, turns-far, ranged, turns_in}
use Rattle.tree_turn.proofs.turn.tested.Goals as goal

pub returns-then-first-index : goal.returns-then-first-index
returns-then-first-index c = let p = c.requires.placed in sym (turns-far p.0 p.1 _ c.if-first-index.true)

pub row-row-requires : goal.row-row-requires
row-row-requires c = let p = c.requires in (p.placed.0.inside, omega (arith, p.placed.0.narrow, (branch _ _ _ _ p.placed.1).1))

pub child-child-requires : goal.child-child-requires
child-child-requires c = let p = c.requires in (p.placed.0.inside, omega (arith, p.placed.0.narrow, (branch _ _ _ _ p.placed.1).1))

pub next_row-beyond-requires : goal.next_row-beyond-requires
next_row-beyond-requires c = let p = c.requires in record { n_lt_pool = (p.placed.0.inside, (branch _ _ _ _ p.placed.1).1, p.placed.0.narrow) }

pub overflow_sub-h : goal.overflow_sub-h
overflow_sub-h c = omega (arith, ap (λ (h : RowPageIndexNodeHeader). h.height) c.header-h.ensures, (branch _ _ _ _ c.requires.placed.1).0)

pub test_node-requires : goal.test_node-requires
test_node-requires c = let p = c.requires in record { n_lt_pool = rw c.child-child.ensures (ranged p.placed.0 p.placed.1 c.if-first-index.false) }

pub returns-in-Some : goal.returns-in-Some
returns-in-Some c =
    let a = c.args in
    let p = c.requires.placed in
    let t = turns_in p.0 p.1 (limit_of a.next) c.if-first-index.false in
    let q : tested (shape_of a.s.layout) a.s.layout.pool a.s.words.now a.at.node.0 a.at.index (limit_of a.next) ≡ Some _ = rw (c.child-child.ensures, c.header-h.ensures, c.row-row.ensures, c.next_row-beyond.ensures) at (sym c.test_node.ensures ∙ c.in-Some.is) in
    rw (c.child-child.ensures, c.next_row-beyond.ensures) (sym (t ∙ enters (shape_of a.s.layout) a.s.layout.pool a.s.words.now a.at.node.0 a.at.index (limit_of a.next) _ q))

pub returns-in-None : goal.returns-in-None
returns-in-None c =
    let a = c.args in
    let p = c.requires.placed in
    let t = turns_in p.0 p.1 (limit_of a.next) c.if-first-index.false in
    let q : tested (shape_of a.s.layout) a.s.layout.pool a.s.words.now a.at.node.0 a.at.index (limit_of a.next) ≡ None = rw (c.child-child.ensures, c.header-h.ensures, c.row-row.ensures, c.next_row-beyond.ensures) at (sym c.test_node.ensures ∙ c.in-None.is) in
    rw c.child-child.ensures (sym (t ∙ stays (shape_of a.s.layout) a.s.layout.pool a.s.words.now a.at.node.0 a.at.index (limit_of a.next) q))
