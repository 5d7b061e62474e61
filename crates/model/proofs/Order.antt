-- What the derived comparisons of row, page and node numbers say of the numbers.
use Prim.Native.Nat.{ℕ, ◌<◌, ◌≤◌}
use mathlib.Core.Bool.{true, false, not}
use mathlib.Core.Path.{◌≡◌, sym, ◌∙◌}
use lib.Dec.{eqb, leb, ltb}
use borrow.Author.Tests.{leb-true, leb-false, ltb-true, ltb-false, eqb-true, eqb-false}
use Rattle.std.specs.Ordering.{is_le, is_lt, nat_cmp}
use Rattle.std.proofs.Common.{rules, arith}
use Rattle.std.proofs.lemmas.Bool.{not-false}
use Rattle.std.proofs.lemmas.Grind.{common_steps}
use Rattle.model.proofs.Tests.{by_test}

module _ (a b : ℕ) where
  pub le_is : is_le (nat_cmp a b) ≡ leb a b
  le_is = search rules

  pub lt_is : is_lt (nat_cmp a b) ≡ ltb a b
  lt_is = Prim.grind (arith, common_steps)

  pub le_holds : is_le (nat_cmp a b) ≡ true → a ≤ b
  le_holds h = leb-true a b (sym le_is ∙ h)

  pub le_fails : is_le (nat_cmp a b) ≡ false → b < a
  le_fails h = leb-false a b (sym le_is ∙ h)

  pub lt_holds : is_lt (nat_cmp a b) ≡ true → a < b
  lt_holds h = ltb-true a b (sym lt_is ∙ h)

  pub lt_fails : is_lt (nat_cmp a b) ≡ false → b ≤ a
  lt_fails h = ltb-false a b (sym lt_is ∙ h)

  pub ne_holds : not (eqb a b) ≡ true → a ≡ b → ⊥
  ne_holds h = eqb-false a b (by_test (eqb a b) (λ t. cc) (λ f. f))

  pub ne_fails : not (eqb a b) ≡ false → a ≡ b
  ne_fails h = eqb-true a b (not-false (eqb a b) h)
