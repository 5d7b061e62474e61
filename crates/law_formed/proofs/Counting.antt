-- Counting: numbers below P, each at most once, are at most P, and P of them are all of them.
use Prim.Native.Nat.{ℕ, zero, suc, ◌+◌, ◌<◌, ◌≤◌}
use mathlib.Core.List.{List, [], ◌∷◌}
use mathlib.Core.Path.{◌≡◌, refl, sym, ◌∙◌, subst}
use native.Mathlib.Omega.{arith}
use lib.ListN.{length}
use lib.Dec.{ltb, eqb}
use borrow.Author.Tests.{eqb-true, eqb-false, ltb-true, ltb-false}
use Rattle.model.specs.Reading.{occ}
use Rattle.model.proofs.Tests.{by_test}
use Rattle.model.proofs.Frame.{occ_self, occ_nil}
use Rattle.model.proofs.Once.{occ-other}
use Rattle.model.proofs.Writes.{occ_cons}

-- how often the numbers below P stand in a list
unfoldable pub total : List ℕ → ℕ → ℕ
total l zero = 0
total l (suc P) = total l P + occ P l

total_nil : (P : ℕ) → total [] P ≡ 0
unfolding total
total_nil zero = refl
total_nil (suc P) = omega (arith, total_nil P, occ_nil P)

total-past : (x : ℕ) (l : List ℕ) (P : ℕ) → P ≤ x → total (x ∷ l) P ≡ total l P
unfolding total
total-past x l zero p = refl
total-past x l (suc P) p = omega (arith, total-past x l P (omega arith), occ_cons P x l, occ-other P x (omega arith))

total_cons : (x : ℕ) (l : List ℕ) (P : ℕ) → x < P → total (x ∷ l) P ≡ total l P + 1
unfolding total
total_cons x l zero p = absurd (omega arith)
total_cons x l (suc P) p =
    by_test (eqb P x)
    (λ t. let e = eqb-true P x t in omega (arith, total-past x l P (omega (arith, e)), occ_cons P x l, subst (λ (k : ℕ). occ P (k ∷ []) ≡ 1) e (occ_self P)))
    (λ t. let d = eqb-false P x t in omega (arith, total_cons x l P (omega (arith, d)), occ_cons P x l, occ-other P x d))

total-length : (l : List ℕ) (P : ℕ) → ((m : ℕ) → P ≤ m → occ m l ≡ 0) → total l P ≡ length l
total-length [] P z = total_nil P
total-length (x ∷ l) P z =
    by_test (ltb x P)
    (λ t. omega (arith, total_cons x l P (ltb-true x P t), total-length l P (λ m p. omega (arith, z m p, occ_cons m x l))))
    (λ t. absurd (omega (arith, z x (ltb-false x P t), occ_cons x x l, occ_self x)))

total-most : (l : List ℕ) (P : ℕ) → ((m : ℕ) → occ m l ≤ 1) → total l P ≤ P
unfolding total
total-most l zero o = omega arith
total-most l (suc P) o = omega (arith, total-most l P o, o P)

total-all : (l : List ℕ) (P : ℕ) → ((m : ℕ) → occ m l ≤ 1) → total l P ≡ P → (m : ℕ) → m < P → occ m l ≡ 1
unfolding total
total-all l zero o e m p = absurd (omega arith)
total-all l (suc P) o e m p =
    by_test (eqb m P)
    (λ t. let q = eqb-true m P t in rw q (omega (arith, total-most l P o, o P)))
    (λ t. total-all l P o (omega (arith, total-most l P o, o P)) m (omega (arith, eqb-false m P t)))

total_ones : (l : List ℕ) (P : ℕ) → ((m : ℕ) → m < P → occ m l ≡ 1) → total l P ≡ P
unfolding total
total_ones l zero o = refl
total_ones l (suc P) o = omega (arith, total_ones l P (λ m p. o m (omega arith)), o P (omega arith))

-- the laws
module _ (l : List ℕ) (P : ℕ) (inside : (m : ℕ) → P ≤ m → occ m l ≡ 0) where
  pub most : ((m : ℕ) → occ m l ≤ 1) → length l ≤ P
  most o = omega (arith, total-most l P o, total-length l P inside)

  pub all : ((m : ℕ) → occ m l ≤ 1) → length l ≡ P → (m : ℕ) → m < P → occ m l ≡ 1
  all o e = total-all l P o (total-length l P inside ∙ e)

  pub long : ((m : ℕ) → m < P → occ m l ≡ 1) → length l ≡ P
  long o = sym (total-length l P inside) ∙ total_ones l P o
