-- The tests of an append that are left once its path was read.
use Prim.Native.Nat.{ℕ, ◌+◌, ◌<◌, ◌≤◌}
use mathlib.Core.Bool.{true, false, ◌&&◌, ◌||◌, false≢true}
use mathlib.Core.Path.{◌≡◌, sym}
use mathlib.Core.Logic.{◌≢◌}
use lib.Dec.{ltb, eqb}
use borrow.Author.Tests.{lt-ltb, eq-eqb, ltb-false}
use Rattle.model.specs.Words.{row_limit, max_height}
use Rattle.model.specs.declared.answer.Refusal.{Refusal}
use Rattle.model.specs.declared.answer.Refusal.TheVariants.{RowLimit, HeightLimit, NoRoom}
use Rattle.model.proofs.Tests.{by_test}
use Rattle.std.specs.Prelude.{Result, Ok, Err}
use Rattle.append_limits.specs.Limits.{limits_told}

never : {A : Type 0} (r : Refusal) → ◌≡◌ {A = Result Unit Refusal} (Err r) (Ok tt) → A
never r e = absurd (cc)

module _ (k s h m free : ℕ) where
  pub record Passes : Type 0 where
    pub most : s + k ≤ row_limit
    pub low : h < m → h ≢ max_height
    pub enough : m ≤ free

  pub passes : limits_told k s h m free ≡ Ok tt → Passes
  unfolding limits_told
  passes e =
      by_test (eqb k 0 || ltb row_limit (s + k))
      (λ t. never RowLimit (rw t at e))
      (λ t. by_test (ltb h m && eqb h max_height)
      (λ u. never HeightLimit (rw (t, u) at e))
      (λ u. by_test (ltb free m)
      (λ v. never (NoRoom m) (rw (t, u, v) at e))
      (λ v. record {
        most = by_test (ltb row_limit (s + k)) (λ x. absurd (not-or t x)) (λ x. ltb-false row_limit (s + k) x);
        low = λ l z. absurd (not-and (lt-ltb h m l) (eq-eqb h max_height z) u);
        enough = ltb-false free m v;
      })))
    where
      not-or : (eqb k 0 || ltb row_limit (s + k)) ≡ false → ltb row_limit (s + k) ≡ true → ⊥
      not-or t x = by_test (eqb k 0) (λ y. let z : true ≡ false = rw y at t in false≢true (sym z)) (λ y. let z : true ≡ false = rw (y, x) at t in false≢true (sym z))

      not-and : ltb h m ≡ true → eqb h max_height ≡ true → (ltb h m && eqb h max_height) ≡ false → ⊥
      not-and l z u = let y : true ≡ false = rw (l, z) at u in false≢true (sym y)
