use Prim.Native.Nat.{ℕ, ◌-◌}
use mathlib.Core.Path.{refl, sym, ap, ◌∙◌}
use native.Mathlib.Omega.{arith}
use mathlib.Core.Bool.{not}
use borrow.Author.Tests.{ltb-true}
use Rattle.model.specs.declared.node.RowPageIndexNodeHeader.{RowPageIndexNodeHeader}
use Rattle.tree_right_edge.specs.Edge.{room_of}
use Rattle.tree_right_edge.proofs.Turns.{has_room, no_room, goes_on, arrives}
use Rattle.tree_right_edge.proofs.go_down.Goals as goal
use Rattle.tree_right_edge.proofs.go_down.Goals.{then-not-full, else-not-full}

pub returns-then-h-eq0 : goal.returns-then-h-eq0
returns-then-h-eq0 c =
    let x = c in
    let k = ap (λ (y : RowPageIndexNodeHeader). y.count) c.header-head.ensures in
    let good = sym c.is_sound.ensures ∙ c.if-not-is_sound.false in
    arrives x.loop-positions.invariant (ltb-true _ _ (sym c.has_node.ensures ∙ c.if-not-has_node.false)) good x.requires.height_le_max_height _ (ap (λ (y : ℕ). y - 1) k) (room_of c.if-not-full.room)
    (elim c.if-not-full.branch [
      | then-not-full v ↦ ap room_of v.room-is ∙ has_room _ _ _ _ _ _ _ c.is_full-full.ensures k (ap not v.if-not-full.true)
      | else-not-full v ↦ ap room_of v.room-is ∙ no_room _ _ _ _ _ _ _ c.is_full-full.ensures k (ap not v.if-not-full.false)
    ])
    c.if-h-eq0.true _ refl refl refl

pub loop-positions-preserved : goal.loop-positions-preserved
loop-positions-preserved c =
    let x = c in
    let k = ap (λ (y : RowPageIndexNodeHeader). y.count) c.header-head.ensures in
    let good = sym c.is_sound.ensures ∙ c.if-not-is_sound.false in
    rw (c.child-n.ensures, c.row-r.ensures)
    (goes_on x.loop-positions.invariant (ltb-true _ _ (sym c.has_node.ensures ∙ c.if-not-has_node.false)) good x.requires.height_le_max_height _ (ap (λ (y : ℕ). y - 1) k) (room_of c.if-not-full.room)
    (elim c.if-not-full.branch [
      | then-not-full v ↦ ap room_of v.room-is ∙ has_room _ _ _ _ _ _ _ c.is_full-full.ensures k (ap not v.if-not-full.true)
      | else-not-full v ↦ ap room_of v.room-is ∙ no_room _ _ _ _ _ _ _ c.is_full-full.ensures k (ap not v.if-not-full.false)
    ])
    (omega (arith, c.if-h-eq0.false)))
