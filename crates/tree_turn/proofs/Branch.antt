-- What a turn tells of its position.
use Prim.Native.Nat.{ℕ, ◌-◌, ◌<◌, ◌≤◌}
use mathlib.Core.List.{List}
use mathlib.Core.Bool.{Bool, true, false}
use mathlib.Core.Path.{◌≡◌, sym, ap, ◌∙◌}
use mathlib.Core.Logic.{◌⊎◌, inl, inr, ⊎_elim}
use native.Mathlib.Omega.{arith}
use lib.Dec.{ltb}
use borrow.Author.Tests.{ltb-true, ltb-false}
use Rattle.model.specs.Words.{Shape, height, count, row, child, child_place}
use Rattle.model.specs.Tree.{Limit, node_at}
use Rattle.model.specs.Reading.{Leave, passes, next_row}
use Rattle.model.specs.Paths.{trail, last_of, above}
use Rattle.model.specs.declared.id.NodeNo.{NodeNo}
use Rattle.model.specs.declared.path.Path.{Path}
use Rattle.model.proofs.Tests.{by_test}
use Rattle.model.proofs.Frame.{Same}
use Rattle.tree_turn.specs.Left.{ValidPath, Moves}
use Rattle.std.specs.Prelude.{Some, None}
use Rattle.tree_turn.specs.Turn.{has_child, out_of, up, down, bad, entering, turning, stepping}
use Rattle.tree_turn.proofs.Moves.{leaf_move, end_move}
use Rattle.tree_turn.proofs.Tests.{branch, no_more}

-- two constructors are never equal
other : {A : Type 0} → ◌≡◌ {A = ℕ} 0 1 → A
other e = absurd (omega arith)

module _ (C : Shape) (P : ℕ) (w : List ℕ) (n i : ℕ) (b : Limit) where
  abbrev test : Bool
  test = passes false C (height C w n - 1) (node_at C w (child C w n i)) (row C w n i) (next_row C w n i b)

  -- a child is entered
  pub record Went (c : ℕ) (next : Limit) (first : ℕ) : Type 0 where
    pub has : has_child C w n i ≡ true
    pub range : child C w n i < P
    pub number : c ≡ child C w n i
    pub beyond : next ≡ next_row C w n i b
    pub out : first ≡ out_of C P w (height C w n - 1) (child C w n i)
    pub good : passes false C (height C w n - 1) (node_at C w (child C w n i)) (row C w n i) (next_row C w n i b) ≡ true

  -- its number is out of range, or it is unsound
  pub record Barred (c : ℕ) : Type 0 where
    pub has : has_child C w n i ≡ true
    pub way : ((P ≤ child C w n i) × (n ≡ c)) ⊎ ((child C w n i < P) × (child C w n i ≡ c) × (passes false C (height C w n - 1) (node_at C w (child C w n i)) (row C w n i) (next_row C w n i b) ≡ false))

  -- by the way of the turn
  by_turn : {A : Type 0} → (has_child C w n i ≡ false → turning C P w n i b ≡ up → A) → (has_child C w n i ≡ true → P ≤ child C w n i → turning C P w n i b ≡ bad n → A)
      → (has_child C w n i ≡ true → child C w n i < P → test ≡ false → turning C P w n i b ≡ bad (child C w n i) → A)
      → (has_child C w n i ≡ true → child C w n i < P → test ≡ true → turning C P w n i b ≡ down (child C w n i) (next_row C w n i b) (out_of C P w (height C w n - 1) (child C w n i)) → A) → A
  unfolding turning entering
  by_turn none far wrong good =
      by_test (has_child C w n i)
      (λ h. by_test (ltb (child C w n i) P)
      (λ r. by_test test (λ t. good h (ltb-true (child C w n i) P r) t (rw (h, r, t))) (λ t. wrong h (ltb-true (child C w n i) P r) t (rw (h, r, t))))
      (λ r. far h (ltb-false (child C w n i) P r) (rw (h, r))))
      (λ h. none h (rw h))

  pub left_it : up ≡ turning C P w n i b → has_child C w n i ≡ false
  left_it e = by_turn (λ h q. h) (λ h r q. other (cc)) (λ h r t q. other (cc)) (λ h r t q. other (cc))

  pub went : (c : ℕ) (next : Limit) (first : ℕ) → down c next first ≡ turning C P w n i b → Went c next first
  went c next first e = by_turn (λ h q. other (cc)) (λ h r q. other (cc)) (λ h r t q. other (cc)) (λ h r t q. record { has = h; range = r; number = cc; beyond = cc; out = cc; good = t })

  pub barred : (c : ℕ) → bad c ≡ turning C P w n i b → Barred c
  barred c e = by_turn (λ h q. other (cc)) (λ h r q. record { has = h; way = inl (r, cc) }) (λ h r t q. record { has = h; way = inr (r, cc, t) }) (λ h r t q. other (cc))

-- the turn that tests nothing
module _ (C : Shape) (w : List ℕ) (n i : ℕ) where
  pub step-out : None ≡ stepping C w n i → has_child C w n i ≡ false
  unfolding stepping
  step-out e = by_test (has_child C w n i) (λ h. let q : None ≡ Some (record { 0 = child C w n i }) = rw h at e in other (cc)) (λ h. h)

  pub step_in : (c : ℕ) → Some (record { 0 = c }) ≡ stepping C w n i → (has_child C w n i ≡ true) × (child C w n i ≡ c)
  unfolding stepping
  step_in c e =
      by_test (has_child C w n i)
      (λ h. let q : Some (record { 0 = c }) ≡ Some (record { 0 = child C w n i }) = rw h at e in
      let r : ◌≡◌ {A = NodeNo} (record { 0 = child C w n i }) (record { 0 = c }) = cc in (h, ap (λ (x : NodeNo). x.0) r))
      (λ h. let q : Some (record { 0 = c }) ≡ None = rw h at e in other (cc))

-- a node with the same words in w and v is turned at in the same way
module _ (C : Shape) (w v : List ℕ) (n i : ℕ) (s : Same C w v n) (l : count C w n ≤ C.cap) where
  same-has : has_child C w n i ≡ has_child C v n i
  unfolding has_child
  same-has = rw (s 0 (omega arith), s 1 (omega arith))

  pub step_same : stepping C w n i ≡ stepping C v n i
  unfolding stepping
  step_same =
      by_test (has_child C w n i)
      (λ h. let e : child C w n i ≡ child C v n i = s (child_place i) (omega (arith, l, (branch C w n i h).1)) in rw (h, sym same-has ∙ h, e))
      (λ h. rw (h, sym same-has ∙ h))

-- a node with no more children is left
pub move_out : (ends : Bool) (C : Shape) (P : ℕ) (w : List ℕ) (p : Path) (v : ValidPath C P w p) (z : 0 < p.depth) (q : Path)
    → has_child C w (last_of p).node.0 (last_of p).index ≡ false → trail q ≡ above p → Moves ends C P w p (Leave (last_of p).node.0) q
move_out ends C P w p v z q e t = ⊎_elim (λ u. leaf_move ends C P w p v z q u t) (λ u. end_move ends C P w p v z q u t) (no_more C w (last_of p).node.0 (last_of p).index e)
