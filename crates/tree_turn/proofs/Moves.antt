-- The moves of the walk: p is the path before a move, q the one after it.
use Prim.Native.Nat.{ℕ, suc, ◌<◌, ◌≤◌}
use mathlib.Core.List.{List, ◌∷◌, ◌++◌}
use mathlib.Core.Bool.{Bool, true, false}
use mathlib.Core.Path.{◌≡◌, sym, ap, ◌∙◌, subst}
use native.Mathlib.Omega.{arith}
use Rattle.model.specs.Words.{Shape, height, count, row, child}
use Rattle.model.specs.Tree.{node_at, level}
use Rattle.model.specs.Reading.{Visit, Enter, Leave, Bad, passes, visits}
use Rattle.model.specs.Paths.{trail, last_of, above, turned, entered}
use Rattle.model.specs.declared.path.Position.{Position}
use Rattle.model.specs.declared.path.Path.{Path}
use Rattle.tree_turn.specs.Left.{bound, rest, Valid, ValidPath, Moves}
use Rattle.tree_turn.proofs.Valid.{valid-top, valid-path}
use Rattle.tree_turn.proofs.Rest.{rest-leaf, rest_end, rest-child, child-far, child-bad, child-good, left_is, left-top, valid-entered}

module _ (ends : Bool) (C : Shape) (P : ℕ) (w : List ℕ) (p : Path) (v : ValidPath C P w p) (z : 0 < p.depth) (q : Path) where
  moved : (x : Visit) (h : ℕ) (st : List Position) → trail q ≡ st → Valid C P w h st
      → rest ends C P w (height C w (last_of p).node.0) (last_of p ∷ above p) ≡ x ∷ rest ends C P w h st → Moves ends C P w p x q
  moved x h st e u o =
      record {
        one = left-top ends C P w p z ∙ o ∙ ap (λ (vs : List Visit). x ∷ vs) (sym (left_is ends C P w q h st e u));
        valid = valid-path C P w q h st e u;
      }

  pub leaf_move : height C w (last_of p).node.0 ≡ 0 → trail q ≡ above p → Moves ends C P w p (Leave (last_of p).node.0) q
  leaf_move h e = moved _ _ _ e (valid-top C P w p z v).over (rest-leaf ends C P w (height C w (last_of p).node.0) (last_of p) (above p) h)

  pub end_move : count C w (last_of p).node.0 ≤ (last_of p).index → trail q ≡ above p → Moves ends C P w p (Leave (last_of p).node.0) q
  end_move h e = moved _ _ _ e (valid-top C P w p z v).over (rest_end ends C P w (height C w (last_of p).node.0) (last_of p) (above p) h)

  module _ (g : ℕ) (high : height C w (last_of p).node.0 ≡ suc g) (l : (last_of p).index < count C w (last_of p).node.0) where
    pub valid-next : Valid C P w (suc g) (turned (last_of p) ∷ above p)
    unfolding Valid
    valid-next =
        let t = valid-top C P w p z v in
        record { inside = t.inside; high = high; within = omega arith; narrow = t.narrow; above = subst (λ (k : ℕ). Valid C P w (suc k) (above p)) high t.over }

    from-child : rest ends C P w (height C w (last_of p).node.0) (last_of p ∷ above p)
        ≡ visits ends C P (suc g) (last_of p).node.0 (level C w (suc g) (child C w (last_of p).node.0 (last_of p).index)) (row C w (last_of p).node.0 (last_of p).index) (bound C w (turned (last_of p) ∷ above p))
        ++ rest ends C P w (suc g) (turned (last_of p) ∷ above p)
    from-child = rw (high, rest-child ends C P w g (last_of p) (above p) l)

    pub far_move : P ≤ child C w (last_of p).node.0 (last_of p).index → trail q ≡ turned (last_of p) ∷ above p → Moves ends C P w p (Bad (last_of p).node.0) q
    far_move h e = moved _ (suc g) _ e valid-next (rw (from-child, child-far ends C P w g _ _ _ _ h))

    module _ (h : child C w (last_of p).node.0 (last_of p).index < P) where
      pub bad_move : passes ends C g (node_at C w (child C w (last_of p).node.0 (last_of p).index)) (row C w (last_of p).node.0 (last_of p).index) (bound C w (turned (last_of p) ∷ above p)) ≡ false
          → trail q ≡ turned (last_of p) ∷ above p → Moves ends C P w p (Bad (child C w (last_of p).node.0 (last_of p).index)) q
      bad_move s e = moved _ (suc g) _ e valid-next (rw (from-child, child-bad ends C P w g _ _ _ _ h s))

      pub enter_move : passes ends C g (node_at C w (child C w (last_of p).node.0 (last_of p).index)) (row C w (last_of p).node.0 (last_of p).index) (bound C w (turned (last_of p) ∷ above p)) ≡ true
          → trail q ≡ entered (child C w (last_of p).node.0 (last_of p).index) ∷ turned (last_of p) ∷ above p
          → Moves ends C P w p (Enter (child C w (last_of p).node.0 (last_of p).index)) q
      enter_move s e = moved _ g _ e (valid-entered ends C P w _ g _ _ _ h s valid-next) (from-child ∙ child-good ends C P w g _ _ _ _ h s)
