-- Bytes put at the front: those that fit, and then the rest as it was.
use Prim.Native.Nat.{ℕ, ◌+◌, ◌≤◌}
use mathlib.Core.Path.{◌≡◌, sym, ◌∙◌, ap}
use mathlib.Core.List.{List, ◌++◌, append-nil}
use native.Mathlib.Omega.{arith}
use lib.ListN.{length, take, drop, take-append-drop, drop_of_length-le}
use lib.Seq.{take_all, length-take-le}
use lib.Dec.{leb, leb→le}
use borrow.Author.Tests.{leb-false}
use Rattle.model.specs.Words.{fill}
use Rattle.model.proofs.Tests.{by_test, holds}
use Rattle.script_text.specs.Lines.{capped, Puts}
use Rattle.model.proofs.Fill.{fill-append, fill_is}
use Rattle.script_text.proofs.Putting.{fill-out}

short : (l xs : List ℕ) → length xs ≤ length l → fill l 0 xs ≡ take (length l) xs ++ drop (length xs) l
short l xs h = fill_is l xs h ∙ ap (λ (ys : List ℕ). ys ++ drop (length xs) l) (sym (take_all (length l) xs h))

long : (l xs : List ℕ) → length l ≤ length xs → fill l 0 xs ≡ take (length l) xs ++ drop (length xs) l
long l xs h =
    let a = take (length l) xs in
    let b = drop (length l) xs in
    let n : length a ≡ length l = length-take-le (length l) xs h in
    let all : length l ≤ length a = omega arith in
    let whole : fill l 0 a ≡ a = fill_is l a (omega arith) ∙ ap (λ (ys : List ℕ). a ++ ys) (drop_of_length-le l all) ∙ append-nil a in
    let parts : fill l 0 xs ≡ fill (fill l 0 a) (0 + length a) b = ap (fill l 0) (sym (take-append-drop (length l) xs)) ∙ fill-append l 0 a b in
    let past : fill (fill l 0 a) (0 + length a) b ≡ fill l 0 a = fill-out (fill l 0 a) (0 + length a) b (omega (arith, ap length whole)) in
    parts ∙ past ∙ whole ∙ sym (append-nil a) ∙ ap (λ (ys : List ℕ). a ++ ys) (sym (drop_of_length-le l h))

fitting : (l xs : List ℕ) → fill l 0 xs ≡ take (length l) xs ++ drop (length xs) l
fitting l xs =
    by_test (leb (length xs) (length l))
    (λ t. short l xs (leb→le (length xs) (length l) (holds _ t)))
    (λ t. long l xs (omega (arith, leb-false (length xs) (length l) t)))

pub fits : {out out₁ xs : List ℕ} {r : ℕ} → Puts out 0 xs out₁ r → (out₁ ≡ take (length out) xs ++ drop (length xs) out) × (r ≡ capped (length xs))
fits {out} {out₁} {xs} {r} p = (p.is ∙ fitting out xs, omega (arith, p.place))
