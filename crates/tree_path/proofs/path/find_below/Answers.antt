use mathlib.Core.Path.{◌≡◌, sym, ◌∙◌}
use native.Mathlib.Omega.{arith}
use borrow.Author.Tests.{ltb-true, ltb-false}
use Prim.Native.Nat.{◌+◌, ◌-◌}
use Rattle.tree_path.proofs.Down.{far, bad, ends, down, towards, rows_of, entry_of}
use Rattle.tree_path.proofs.path.find_below.Goals as goal

pub returns-then-not-has_node : goal.returns-then-not-has_node
returns-then-not-has_node c = sym (c.loop-below.invariant ∙ far _ _ _ _ _ _ _ _ _ (ltb-false _ _ (sym c.has_node.ensures ∙ c.if-not-has_node.true)))

pub returns-then-not-is_sound : goal.returns-then-not-is_sound
returns-then-not-is_sound c =
    let z : c.loop-below.below - 1 + 1 ≡ c.loop-below.below = omega (arith, c.loop-below-test.true) in
    let inside = ltb-true _ _ (sym c.has_node.ensures ∙ c.if-not-has_node.false) in
    sym (c.loop-below.invariant ∙ bad _ _ _ _ _ _ _ _ _ inside (sym (rw z at c.is_sound.ensures) ∙ c.if-not-is_sound.true))

pub place_of-index-requires : goal.place_of-index-requires
place_of-index-requires c =
    let inside = ltb-true _ _ (sym c.has_node.ensures ∙ c.if-not-has_node.false) in
    let good = sym c.is_sound.ensures ∙ c.if-not-is_sound.false in
    let f = rows_of _ _ _ _ _ _ good _ c.header-head.ensures in
    record { n_lt_pool = (inside, f.0, f.1, f.2) }

pub next_row-next-requires : goal.next_row-next-requires
next_row-next-requires c =
    let inside = ltb-true _ _ (sym c.has_node.ensures ∙ c.if-not-has_node.false) in
    let good = sym c.is_sound.ensures ∙ c.if-not-is_sound.false in
    let f = entry_of _ _ _ _ _ _ good _ c.header-head.ensures _ _ c.place_of-index.ensures in
    record { n_lt_pool = (inside, f.0, f.1) }

pub row-r-requires : goal.row-r-requires
row-r-requires c =
    let inside = ltb-true _ _ (sym c.has_node.ensures ∙ c.if-not-has_node.false) in
    let good = sym c.is_sound.ensures ∙ c.if-not-is_sound.false in
    (inside, omega (arith, entry_of _ _ _ _ _ _ good _ c.header-head.ensures _ _ c.place_of-index.ensures))

pub child-n-requires : goal.child-n-requires
child-n-requires c =
    let inside = ltb-true _ _ (sym c.has_node.ensures ∙ c.if-not-has_node.false) in
    let good = sym c.is_sound.ensures ∙ c.if-not-is_sound.false in
    (inside, omega (arith, entry_of _ _ _ _ _ _ good _ c.header-head.ensures _ _ c.place_of-index.ensures))

pub loop-below-preserved : goal.loop-below-preserved
loop-below-preserved c =
    let z : c.loop-below.below - 1 + 1 ≡ c.loop-below.below = omega (arith, c.loop-below-test.true) in
    let inside = ltb-true _ _ (sym c.has_node.ensures ∙ c.if-not-has_node.false) in
    let good = sym (rw z at c.is_sound.ensures) ∙ c.if-not-is_sound.false in
    c.loop-below.invariant
    ∙ down _ _ _ _ _ _ _ _ _ _ c.loop-below-test.true inside good (towards _ _ _ _ _ _ good _ c.header-head.ensures _ _ c.place_of-index.ensures)
    ∙ rw (c.child-n.ensures, c.row-r.ensures, c.next_row-next.ensures)

pub returns-then-not-has_node-2 : goal.returns-then-not-has_node-2
returns-then-not-has_node-2 c = sym (c.loop-below.invariant ∙ far _ _ _ _ _ _ _ _ _ (ltb-false _ _ (sym c.has_node-2.ensures ∙ c.if-not-has_node-2.true)))

pub returns-then-not-is_sound-2 : goal.returns-then-not-is_sound-2
returns-then-not-is_sound-2 c =
    let z : c.loop-below.below ≡ 0 = omega (arith, c.loop-below-test.false) in
    let inside = ltb-true _ _ (sym c.has_node-2.ensures ∙ c.if-not-has_node-2.false) in
    sym (c.loop-below.invariant ∙ bad _ _ _ _ _ _ _ _ _ inside (rw z (sym c.is_sound-2.ensures ∙ c.if-not-is_sound-2.true)))

pub returns : goal.returns
returns c =
    let inside = ltb-true _ _ (sym c.has_node-2.ensures ∙ c.if-not-has_node-2.false) in
    sym (c.loop-below.invariant ∙ ends _ _ _ _ _ _ _ _ _ (omega (arith, c.loop-below-test.false)) inside (sym c.is_sound-2.ensures ∙ c.if-not-is_sound-2.false))
