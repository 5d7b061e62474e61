use native.Mathlib.Omega.{arith}
use mathlib.Core.Path.{◌∙◌, ap, sym}
use borrow.Author.Tests.{eqb-false}
use Rattle.model.specs.declared.node.RowPageIndexNodeHeader.{RowPageIndexNodeHeader}
use Rattle.node_read.specs.Layout.{shape_of}
use Rattle.node_place.proofs.Places.{place-below}
use Rattle.call_find.proofs.find_in_leaf.Goals as goal

pub page-requires : goal.page-requires
page-requires c =
    let a = c.args in
    let e = ap (λ (h : RowPageIndexNodeHeader). h.count) c.header-h.ensures in
    let some = eqb-false c.header-h.result.count 0 (sym c.is_empty.ensures ∙ c.if-is_empty.false) in
    (c.requires.leaf.inside, omega (arith, c.place_of-i.ensures, c.requires.leaf.many, e, place-below (shape_of a.s.layout) a.s.words.now a.n.0 a.row.0 c.header-h.result.count (omega (arith, some))))
