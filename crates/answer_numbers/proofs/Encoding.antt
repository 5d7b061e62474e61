-- The words of an answer of at most five values tell it.
use Prim.Native.Nat.{ℕ, zero, suc, ◌≤◌}
use mathlib.Core.Path.{◌≡◌, refl, sym, ap, ◌∙◌}
use mathlib.Core.List.{List, [], ◌∷◌, ◌++◌}
use mathlib.Core.Bool.{Bool, true}
use native.Mathlib.Omega.{arith}
use lib.ListN.{length, take, drop}
use lib.Dec.{leb, ltb}
use Rattle.std.proofs.lemmas.Bool.{le-leb}
use Rattle.std.proofs.lemmas.List.{length-take-le}
use borrow.Author.Tests.{leb-true, ltb-true, ne_eqb}
use Rattle.model.specs.Refusals.{Answer, result, refused, refusal}
use Rattle.model.specs.declared.answer.Refusal.{Refusal}
use Rattle.model.specs.declared.answer.Refusal.TheVariants as R
use Rattle.answer_numbers.specs.Numbers.{answer_words, five_of, words_of, answer_of, Encodes}
use Rattle.answer_numbers.specs.declared.Numbers.{Numbers}

-- seven words hold it, and 0 is no refusal's number
abbrev pub fits : Answer → Bool
fits (result vs) = leb (length vs) 5
fits (refused n d) = ltb 0 n

abbrev zeros : List ℕ
zeros = 0 ∷ 0 ∷ 0 ∷ 0 ∷ 0 ∷ []

taken_back : (k : ℕ) (vs zs : List ℕ) → length vs ≤ k → take (length vs) (take k (vs ++ zs)) ≡ vs
taken_back k [] zs h = refl
taken_back zero (v ∷ vs) zs h = absurd (omega arith)
taken_back (suc k) (v ∷ vs) zs h = ap (λ (l : List ℕ). v ∷ l) (taken_back k vs zs (omega arith))

told_by : (n : Numbers) (a : Answer) → fits a ≡ true → words_of n ≡ answer_words a → answer_of n ≡ a
unfolding answer_of answer_words
told_by n (result vs) h e =
    let x : n.number ≡ 0 = cc in
    let k : n.count ≡ length vs = cc in
    let l : five_of n ≡ take 5 (vs ++ zeros) = cc in
    rw (x, k, l, taken_back 5 vs zeros (leb-true (length vs) 5 h))
told_by n (refused m d) h e =
    let x : n.number ≡ m = cc in
    let l : five_of n ≡ take 5 (d ∷ [] ++ zeros) = cc in
    rw (x, l, ne_eqb m 0 (λ z. omega (arith, ltb-true 0 m h)))

pub encodes : {n : Numbers} {a : Answer} → fits a ≡ true → words_of n ≡ answer_words a → Encodes n a
encodes {n} {a} h e = record { answer = told_by n a h e; words = e }

pub refusal-fits : (r : Refusal) → fits (refusal r) ≡ true
refusal-fits R.BadParameters = refl
refusal-fits (R.Unsound n) = refl
refusal-fits R.Closed = refl
refusal-fits R.RowLimit = refl
refusal-fits (R.NoRoom needed) = refl
refusal-fits R.HeightLimit = refl
refusal-fits R.NoPrefix = refl
refusal-fits (R.StartDiffers start) = refl
refusal-fits (R.PageDiffers place) = refl
refusal-fits (R.EndDiffers place) = refl
refusal-fits (R.ListTooLong held) = refl
refusal-fits (R.RowBelowPivot row) = refl
refusal-fits (R.ListTooShort wanted) = refl

-- a refusal's numbers
pub encodes_refusal : (r : Refusal) (m d : ℕ) → refusal r ≡ refused m d → Encodes (record { number = m; count = 1; values = d ∷ 0 ∷ 0 ∷ 0 ∷ 0 ∷ [] }) (refusal r)
unfolding answer_words
encodes_refusal r m d e = encodes (refusal-fits r) (rw e refl)

filled : (vs : List ℕ) → length vs ≤ 5 → vs ++ drop (length vs) zeros ≡ take 5 (vs ++ zeros)
filled [] h = refl
filled (a ∷ []) h = refl
filled (a ∷ b ∷ []) h = refl
filled (a ∷ b ∷ c ∷ []) h = refl
filled (a ∷ b ∷ c ∷ d ∷ []) h = refl
filled (a ∷ b ∷ c ∷ d ∷ e ∷ []) h = refl
filled (a ∷ b ∷ c ∷ d ∷ e ∷ f ∷ vs) h = absurd (omega arith)

-- the numbers of values: so many of five words
pub encodes_values : (k : ℕ) (vs ws : List ℕ) → k ≤ 5 → ws ≡ vs → length ws ≡ length (take k zeros) → Encodes (record { number = 0; count = k; values = ws ++ drop k zeros }) (result vs)
unfolding answer_words
encodes_values k vs ws h e l =
    let n : length vs ≡ k = sym (ap length e) ∙ l ∙ length-take-le k _ h in
    let f : length vs ≤ 5 = omega arith in
    encodes (le-leb (length vs) 5 f) (rw (e, ← n, filled vs f) refl)
