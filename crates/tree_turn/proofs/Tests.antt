-- The tests of a turn in the terms of the code.
use Prim.Native.Nat.{ℕ, ◌-◌, ◌<◌, ◌≤◌}
use mathlib.Core.List.{List}
use mathlib.Core.Bool.{true, false, and-true, false≢true}
use mathlib.Core.Path.{◌≡◌}
use mathlib.Core.Logic.{◌⊎◌, inl, inr}
use native.Mathlib.Omega.{arith}
use lib.Dec.{ltb}
use borrow.Author.Tests.{lt-ltb, le-ltb, ltb-true, ltb-false}
use Rattle.model.specs.Words.{Shape, pick, height, count, row, child}
use Rattle.model.specs.Tree.{Limit, node_at, sound}
use Rattle.model.specs.Reading.{passes, next_row}
use Rattle.model.proofs.Tests.{by_test}
use Rattle.node_test.specs.Test.{node_test}
use Rattle.std.specs.Prelude.{Option, Some, None}
use Rattle.model.specs.declared.path.Position.{Position}
use Rattle.tree_turn.specs.Turn.{has_child, out_of, Placed, up, down, bad, entering, turning}
use Rattle.tree_turn.proofs.Outs.{in_range_lem, out-range}

module _ (C : Shape) (P : ℕ) (w : List ℕ) (n h r : ℕ) (b : Limit) where
  -- the node test is what the walk asks of a node where ends are not looked at
  pub test-passes : node_test C P w n h r b ≡ pick (passes false C h (node_at C w n) r b) (Some (out_of C P w h n)) None
  unfolding passes node_test out_of
  test-passes = rw (and-true (sound C h (node_at C w n) r b))

-- what the test of a node says of it
module _ (C : Shape) (P : ℕ) (w : List ℕ) (n h r : ℕ) (b : Limit) where
  pub pass-sound : (first : ℕ) → node_test C P w n h r b ≡ Some first → (passes false C h (node_at C w n) r b ≡ true) × (first ≡ out_of C P w h n)
  pass-sound first e =
      by_test (passes false C h (node_at C w n) r b)
      (λ t. let q : Some (out_of C P w h n) ≡ Some first = rw (test-passes C P w n h r b, t) at e in (t, cc))
      (λ t. let q : None ≡ Some first = rw (test-passes C P w n h r b, t) at e in let z : ◌≡◌ {A = ℕ} 0 1 = cc in absurd (omega arith))

  pub pass-unsound : node_test C P w n h r b ≡ None → passes false C h (node_at C w n) r b ≡ false
  pass-unsound e =
      by_test (passes false C h (node_at C w n) r b)
      (λ t. let q : Some (out_of C P w h n) ≡ None = rw (test-passes C P w n h r b, t) at e in let z : ◌≡◌ {A = ℕ} 0 1 = cc in absurd (omega arith))
      (λ t. t)

-- what the test of child i of branch n says
module _ (C : Shape) (P : ℕ) (w : List ℕ) (n i : ℕ) (b : Limit) where
  abbrev pub tested : Option ℕ
  tested = node_test C P w (child C w n i) (height C w n - 1) (row C w n i) (next_row C w n i b)

  pub enters : (first : ℕ) → tested ≡ Some first → entering C P w n i b ≡ down (child C w n i) (next_row C w n i b) first
  unfolding entering
  enters first e = let s = pass-sound C P w (child C w n i) (height C w n - 1) (row C w n i) (next_row C w n i b) first e in rw (s.0, s.1)

  pub stays : tested ≡ None → entering C P w n i b ≡ bad (child C w n i)
  unfolding entering
  stays e = rw (pass-unsound C P w (child C w n i) (height C w n - 1) (row C w n i) (next_row C w n i b) e)

-- a branch with an entry i
pub branch : (C : Shape) (w : List ℕ) (n i : ℕ) → has_child C w n i ≡ true → (0 < height C w n) × (i < count C w n)
unfolding has_child
branch C w n i e =
    by_test (ltb 0 (height C w n))
    (λ u. let f = rw u at e in (ltb-true 0 (height C w n) u, omega (arith, ltb-true)))
    (λ u. absurd (false≢true (rw u at e)))

-- a node that has no more children is a leaf, or all its entries are done
pub no_more : (C : Shape) (w : List ℕ) (n i : ℕ) → has_child C w n i ≡ false → (height C w n ≡ 0) ⊎ (count C w n ≤ i)
unfolding has_child
no_more C w n i e =
    by_test (ltb 0 (height C w n))
    (λ u. let f = rw u at e in inr (omega (arith, ltb-false)))
    (λ u. inl (omega (arith, ltb-false 0 (height C w n) u)))

-- the turn at a position, by the tests of the code
pub turns_up : (C : Shape) (P : ℕ) (w : List ℕ) (at : Position) (b : Limit) → has_child C w at.node.0 at.index ≡ false → turning C P w at.node.0 at.index b ≡ up
unfolding turning
turns_up C P w at b e = rw e

module _ {C : Shape} {P : ℕ} {w : List ℕ} {at : Position} {first : ℕ} (p : Placed C P w at first) (e : has_child C w at.node.0 at.index ≡ true) where
  far : first ≤ at.index → P ≤ child C w at.node.0 at.index
  far h =
      let t = branch C w at.node.0 at.index e in
      out-range C P w at.node.0 (height C w at.node.0) t.0 at.index (omega (arith, p.first-is, p.ahead)) t.1

  pub turns-far : (b : Limit) → first ≤ at.index → turning C P w at.node.0 at.index b ≡ bad at.node.0
  unfolding turning
  turns-far b h = rw (e, le-ltb (child C w at.node.0 at.index) P (far h))

  pub before : child C w at.node.0 at.index < P → at.index < first
  before l = by_test (ltb at.index first) (ltb-true at.index first) (λ t. absurd (omega (arith, far (ltb-false at.index first t))))

  pub ranged : at.index < first → child C w at.node.0 at.index < P
  ranged h = in_range_lem C P w at.node.0 (height C w at.node.0) (branch C w at.node.0 at.index e).0 at.index (omega (arith, p.first-is))

  pub turns_in : (b : Limit) → at.index < first → turning C P w at.node.0 at.index b ≡ entering C P w at.node.0 at.index b
  unfolding turning
  turns_in b h = rw (e, lt-ltb (child C w at.node.0 at.index) P (ranged h))
