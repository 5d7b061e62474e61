-- Counting one by one.
use Prim.Native.Nat.{ℕ, ◌+◌, ◌^◌, ◌<◌, ◌≤◌}
use mathlib.Core.Path.{◌≡◌, sym, ap, ◌∙◌}
use native.Mathlib.Omega.{arith}
use lib.Dec.{ltb}
use borrow.Author.Tests.{lt-ltb, le-ltb, ltb-true, ltb-false}
use Rattle.model.proofs.Tests.{by_test}
use Rattle.tree_tally.specs.Tally.{more, few}

low : (n : ℕ) → n < 2 ^ 32 → few n ≡ n
unfolding few
low n l = rw (lt-ltb n (2 ^ 32) l)

high : (n : ℕ) → 2 ^ 32 ≤ n → few n ≡ 2 ^ 32
unfolding few
high n l = rw (le-ltb n (2 ^ 32) l)

on : (k : ℕ) → k < 2 ^ 32 → more k 1 ≡ k + 1
unfolding more
on k l = rw (lt-ltb k (2 ^ 32) l)

off : (k : ℕ) → 2 ^ 32 ≤ k → more k 1 ≡ k
unfolding more
off k l = rw (le-ltb k (2 ^ 32) l)

pub few-more : (n : ℕ) → more (few n) 1 ≡ few (n + 1)
few-more n =
    by_test (ltb n (2 ^ 32))
    (λ t. let l = ltb-true n (2 ^ 32) t in
    ap (λ (k : ℕ). more k 1) (low n l) ∙ on n l
    ∙ by_test (ltb (n + 1) (2 ^ 32)) (λ u. sym (low (n + 1) (ltb-true (n + 1) (2 ^ 32) u))) (λ u. let z : n + 1 ≡ 2 ^ 32 = omega (arith, l, ltb-false (n + 1) (2 ^ 32) u) in z ∙ sym (high (n + 1) (ltb-false (n + 1) (2 ^ 32) u))))
    (λ t. let l = ltb-false n (2 ^ 32) t in ap (λ (k : ℕ). more k 1) (high n l) ∙ off (2 ^ 32) (omega arith) ∙ sym (high (n + 1) (omega (arith, l))))

-- few are counted exactly
pub few-is : (n : ℕ) → n ≤ 65535 → few n ≡ n
few-is n l = low n (omega arith)

pub few-most : (n : ℕ) → few n ≤ 2 ^ 32
few-most n = by_test (ltb n (2 ^ 32)) (λ t. let l = ltb-true n (2 ^ 32) t in omega (arith, low n l)) (λ t. omega (arith, high n (ltb-false n (2 ^ 32) t)))
