-- The first child number out of range: those before it are in range, and it is not.
use Prim.Native.Nat.{ℕ, zero, suc, ◌+◌, ◌<◌, ◌≤◌}
use mathlib.Core.List.{List}
use mathlib.Core.Path.{◌≡◌, sym, ◌∙◌, subst}
use mathlib.Core.Logic.{⊎_elim}
use native.Mathlib.Omega.{arith}
use native.Mathlib.Nat.{eq-or-lt_of_le}
use lib.Dec.{ltb}
use borrow.Author.Tests.{ltb-true, ltb-false, ne_eqb}
use Rattle.model.specs.Words.{Shape, count, child}
use Rattle.model.proofs.Tests.{by_test}
use Rattle.node_test.specs.Test.{first_out}
use Rattle.tree_turn.specs.Turn.{out_of}

module _ (C : Shape) (P : ℕ) (w : List ℕ) (n : ℕ) where
  below : (i k j : ℕ) → i ≤ j → j < first_out C P w n i k → child C w n j < P
  unfolding first_out
  below i zero j l h = absurd (omega arith)
  below i (suc k) j l h =
      by_test (ltb (child C w n i) P)
      (λ t. ⊎_elim
      (λ (e : i ≡ j). subst (λ (x : ℕ). child C w n x < P) e (ltb-true (child C w n i) P t))
      (λ (d : i < j). below (i + 1) k j (omega arith) (rw t at h))
      (eq-or-lt_of_le l))
      (λ t. let z : j < i = rw t at h in absurd (omega arith))

  at : (i k j : ℕ) → first_out C P w n i k ≡ j → j < i + k → P ≤ child C w n j
  unfolding first_out
  at i zero j e h = absurd (omega arith)
  at i (suc k) j e h =
      by_test (ltb (child C w n i) P)
      (λ t. at (i + 1) k j (rw t at e) (omega arith))
      (λ t. let z : i ≡ j = rw t at e in subst (λ (x : ℕ). P ≤ child C w n x) z (ltb-false (child C w n i) P t))

  module _ (h : ℕ) (tall : 0 < h) where
    out-is : out_of C P w h n ≡ first_out C P w n 0 (count C w n)
    unfolding out_of
    out-is = rw (ne_eqb h 0 (λ e. omega arith))

    pub in_range_lem : (j : ℕ) → j < out_of C P w h n → child C w n j < P
    in_range_lem j l = below 0 (count C w n) j (omega arith) (omega (arith, out-is))

    pub out-range : (j : ℕ) → out_of C P w h n ≡ j → j < count C w n → P ≤ child C w n j
    out-range j e l = at 0 (count C w n) j (sym out-is ∙ e) (omega arith)
