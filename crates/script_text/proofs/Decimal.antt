-- The fewest digits that hold a number are its decimal digits.
use Prim.Native.Nat.{ℕ, zero, suc, ◌-◌, ◌/◌, ◌%◌, ◌^◌, ◌≤◌, ◌<◌}
use mathlib.Core.Path.{◌≡◌}
use native.Mathlib.Omega.{arith}
use native.Mathlib.Nat.{pow-suc, one-le-pow, mod-eq_of_lt, pow-le-pow_right}
use borrow.Author.Tests.{lt-ltb, le-ltb, leb-false}
use lib.Dec.{leb, leb→le}
use Rattle.model.proofs.Tests.{by_test, holds}
use Rattle.io.specs.Digits.{hex_digit_ascii, last_digits, IsDigitCount}
use Rattle.script_text.specs.Lines.{digit, digits_of, decimal}

glyph_digit : (d : ℕ) → d < 10 → hex_digit_ascii d ≡ digit d
glyph_digit d h = rw (lt-ltb d 10 h)

pub digits_are : (k f n : ℕ) → k ≤ f → IsDigitCount 10 1 n k → last_digits 10 k n ≡ digits_of f n
unfolding digits_of
digits_are zero f n h w = absurd (omega (arith, w.0))
digits_are (suc zero) zero n h w = absurd (omega arith)
digits_are (suc zero) (suc f) n h w =
    let small : n < 10 = w.1 in
    rw (mod-eq_of_lt small, lt-ltb n 10 small)
digits_are (suc (suc k)) zero n h w = absurd (omega arith)
digits_are (suc (suc k)) (suc f) n h w =
    let e₁ : suc (suc k) - 1 ≡ suc k = omega arith in
    let e₀ : suc k - 1 ≡ k = omega arith in
    let low : 10 ^ suc k ≤ n = rw e₁ at (w.2 (omega arith)) in
    let p = pow-suc 10 k in
    let q = pow-suc 10 (suc k) in
    let one = one-le-pow k 10 (omega arith) in
    let high : n < 10 ^ suc (suc k) = w.1 in
    let least : 10 ^ k ≤ n / 10 = omega arith in
    let more : IsDigitCount 10 1 (n / 10) (suc k) = (omega arith, omega arith, λ t. rw e₀ least) in
    let e = digits_are (suc k) f (n / 10) (omega arith) more in
    let big : 10 ≤ n = omega arith in
    let g = glyph_digit (n % 10) (omega arith) in
    rw (le-ltb n 10 big, e, g)

spelled : (k n : ℕ) → k ≤ 20 → IsDigitCount 10 1 n k → last_digits 10 k n ≡ decimal n
unfolding decimal
spelled k n h w = digits_are k 20 n h w

-- a 64-bit number has at most twenty
pub spells : (k n : ℕ) → n < 2 ^ 64 → IsDigitCount 10 1 n k → last_digits 10 k n ≡ decimal n
spells k n h w =
    by_test (leb k 20)
    (λ t. spelled k n (leb→le k 20 (holds _ t)) w)
    (λ t.
    let big : 20 < k = leb-false k 20 t in
    let low = w.2 (omega arith) in
    let many : 20 ≤ k - 1 = omega arith in
    let ten : 0 < 10 = omega arith in
    let p : 10 ^ 20 ≤ 10 ^ (k - 1) = pow-le-pow_right ten many in
    absurd (omega arith))
