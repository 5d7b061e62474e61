use mathlib.Core.Path.{◌≡◌, sym, ap, subst}
use native.Mathlib.Omega.{arith}
use Rattle.node_read.specs.Layout.{shape_of}
use Rattle.model.specs.Append.{Room, room}
use Rattle.tree_right_edge.specs.Edge.{Usable}
use Rattle.tree_right_edge.proofs.Edges.{usable}
use Rattle.model.specs.declared.node.RowPageIndexNodeHeader.{RowPageIndexNodeHeader}
use Rattle.append_limits.proofs.Limits.{passes}
use Rattle.call_append.proofs.insert_after.Goals as goal

pub place_page-requires-clause-usable : goal.place_page-requires-clause-usable
place_page-requires-clause-usable c =
    let a = c.args in
    let p = c.requires in
    let t = ap (λ (h : RowPageIndexNodeHeader). h.height) c.header-top.ensures in
    let k : a.free.needed ≡ (room (shape_of a.h.layout) a.s.now a.h.root.0).needed = ap (λ (o : Room). o.needed) p.free_value in
    let g = passes _ _ _ _ _ (sym c.in_ok-test_limits.ensures) in
    subst (Usable (shape_of a.h.layout) a.h.layout.pool a.s.now a.h.root.0) (sym p.free_value)
    (usable (shape_of a.h.layout) a.h.layout.pool a.s.now a.h.root.0 a.last.0 p.sound_edge (omega (arith, k, g.enough, p.root_lt_pool.2)) (λ l. rw t at (g.low (omega (arith, k, t)))))
