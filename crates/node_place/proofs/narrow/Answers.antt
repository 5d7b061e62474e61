use Prim.Native.Nat.{◌<◌, ◌≤◌}
use mathlib.Core.Path.{◌∙◌, sym}
use Rattle.model.proofs.Order.{le_holds, le_fails}
use native.Mathlib.Omega.{arith}
use Rattle.node_read.specs.Layout.{shape_of}
use Prim.Native.Nat.{◌+◌}
use Rattle.node_place.proofs.Places.{Looked, moved, kept, found, place-below}
use Rattle.node_place.proofs.narrow.Goals as goal
use Rattle.node_place.proofs.narrow.Goals.{then-le, else-le}

pub loop-i-preserved : goal.loop-i-preserved
loop-i-preserved c =
    let a = c.args in
    let p = c.requires in
    let at = c.loop-i in
    let r = c.row.ensures in
    let end = c.min-end.ensures in
    let b : at.i < a.count = omega (arith, end, c.loop-i-test.true) in
    let some : 1 ≤ a.count = omega arith in
    elim c.if-le.branch [
      | then-le w ↦ rw w.place-is (moved (shape_of a.s.layout) a.s.words.now a.n.0 a.count some p.n_lt_pool.2 a.q.0 a.step at.place at.i at.invariant b (omega (arith, r, le_holds c.row.result.0 a.q.0 (sym c.le.ensures ∙ w.if-le.true))))
      | else-le w ↦ rw w.place-is (kept (shape_of a.s.layout) a.s.words.now a.n.0 a.count some p.n_lt_pool.2 a.q.0 a.step at.place at.i at.invariant p.le_step.0 b (omega (arith, r, le_fails c.row.result.0 a.q.0 (sym c.le.ensures ∙ w.if-le.false))))
    ]

-- the last row looked at
pub returns-after-le : goal.returns-after-le
returns-after-le c =
    let a = c.args in
    let p = c.requires in
    let at = c.loop-i in
    let r = c.row.ensures in
    let end = c.min-end.ensures in
    let b : at.i < a.count = omega (arith, end, c.loop-i-test.true) in
    let some : 1 ≤ a.count = omega arith in
    let below = place-below (shape_of a.s.layout) a.s.words.now a.n.0 a.q.0 a.count some in
    let next : Looked (shape_of a.s.layout) a.s.words.now a.q.0 a.n.0 a.count a.step c.if-le.place (at.i + a.step) =
    elim c.if-le.branch [
      | then-le w ↦ rw w.place-is (moved (shape_of a.s.layout) a.s.words.now a.n.0 a.count some p.n_lt_pool.2 a.q.0 a.step at.place at.i at.invariant b (omega (arith, r, le_holds c.row.result.0 a.q.0 (sym c.le.ensures ∙ w.if-le.true))))
      | else-le w ↦ rw w.place-is (kept (shape_of a.s.layout) a.s.words.now a.n.0 a.count some p.n_lt_pool.2 a.q.0 a.step at.place at.i at.invariant p.le_step.0 b (omega (arith, r, le_fails c.row.result.0 a.q.0 (sym c.le.ensures ∙ w.if-le.false))))
    ] in
    found (shape_of a.s.layout) a.s.words.now a.n.0 a.count some p.n_lt_pool.2 a.q.0 a.step c.if-le.place (at.i + a.step) next c.min-end.result (omega (arith, below, end, p.lies_in.before)) (omega arith)

pub returns : goal.returns
returns c =
    let a = c.args in
    let p = c.requires in
    let at = c.loop-i in
    let end = c.min-end.ensures in
    let some : 1 ≤ a.count = omega arith in
    let below = place-below (shape_of a.s.layout) a.s.words.now a.n.0 a.q.0 a.count some in
    found (shape_of a.s.layout) a.s.words.now a.n.0 a.count some p.n_lt_pool.2 a.q.0 a.step at.place at.i at.invariant _ (omega (arith, below, end, p.lies_in.before)) c.loop-i-test.false
