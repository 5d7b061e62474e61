use mathlib.Core.Path.{ap}
use native.Mathlib.Omega.{arith}
use Rattle.model.specs.declared.node.RowPageIndexNodeHeader.{RowPageIndexNodeHeader}
use Rattle.prune_cut.proofs.Edges.{shaped, last_in_lem, whole_is, stays-is}
use Rattle.prune_cut.proofs.prune_edge.Goals as goal

pub overflow_sub-last : goal.overflow_sub-last
overflow_sub-last c = let p = c.requires in (shaped p.0 p.1).0

pub offset_bounds-b-b : goal.offset_bounds-b-b
offset_bounds-b-b c = let p = c.requires in omega (arith, (shaped p.0 p.1).1)

pub bounds-b-b : goal.bounds-b-b
bounds-b-b c =
    let p = c.requires in
    let s = shaped p.0 p.1 in omega (arith, s.0, s.1, s.2)

pub header-requires : goal.header-requires
header-requires c =
    let p = c.requires in last_in_lem p.0 p.1

pub prune_all-requires : goal.prune_all-requires
prune_all-requires c =
    let p = c.requires in
    (p.0, p.1, rw (ap (λ (h : RowPageIndexNodeHeader). h.count) c.header.ensures) at c.if-header-last.true)

pub returns-then-header-last : goal.returns-then-header-last
returns-then-header-last c =
    let e = whole_is c.requires.0 c.requires.1 (rw (ap (λ (h : RowPageIndexNodeHeader). h.count) c.header.ensures) at c.if-header-last.true) c.args.k in
    record { answer = rw e c.prune_all.ensures.answer; words = rw e c.prune_all.ensures.words }

pub prune_some-requires : goal.prune_some-requires
prune_some-requires c =
    let p = c.requires in
    (p.0, p.1, rw (ap (λ (h : RowPageIndexNodeHeader). h.count) c.header.ensures) at c.if-header-last.false)

pub returns : goal.returns
returns c =
    let e = stays-is c.requires.0 c.requires.1 (rw (ap (λ (h : RowPageIndexNodeHeader). h.count) c.header.ensures) at c.if-header-last.false) c.args.k in
    record { answer = rw e c.prune_some.ensures.answer; words = rw e c.prune_some.ensures.words }
