-- Little-endian numbers.
use Prim.Native.Nat.{ℕ, zero, suc, ◌+◌, ◌-◌, ◌*◌, ◌^◌, ◌≤◌, ◌<◌}
use mathlib.Core.Path.{◌≡◌, refl, ◌∙◌, ap}
use mathlib.Core.List.{List, [], ◌∷◌, ◌++◌}
use native.Mathlib.Omega.{arith}
use native.Mathlib.Nat.{pow-succ', mul_assoc, mul_comm}
use lib.ListN.{length, get_or, take, drop, length-drop}
use lib.Seq.{take-suc, take_all, drop-drop, length-take-le}
use Rattle.std.specs.Int.{sum_through, byte_worth}
use Rattle.std.specs.Prelude.{slice_index}
use Rattle.script_records.specs.Records.{little, words_in}
use Rattle.script_records.specs.Read.{Reads}

little-append : (xs ys : List ℕ) → little (xs ++ ys) ≡ little xs + 256 ^ length xs * little ys
unfolding little
little-append [] ys = omega arith
little-append (x ∷ xs) ys =
    let e = little-append xs ys in
    let m : 256 ^ suc (length xs) * little ys ≡ 256 * (256 ^ length xs * little ys) = rw (pow-succ' 256 (length xs)) (mul_assoc 256 (256 ^ length xs) (little ys)) in
    omega arith

-- the bytes of an array, as from_le_bytes adds them up
summed : (k : ℕ) (xs : List ℕ) → k < length xs → sum_through (λ j. byte_worth j (slice_index xs j)) k ≡ little (take (suc k) xs)
unfolding little
summed zero [] h = absurd (omega arith)
summed zero (x ∷ xs) h = omega arith
summed (suc k) xs h =
    let e = summed k xs (omega arith) in
    let b = get_or xs (suc k) 0 in
    let n : length (take (suc k) xs) ≡ suc k = length-take-le (suc k) xs (omega arith) in
    let a = little-append (take (suc k) xs) (b ∷ []) in
    let m : little (take (suc k) xs ++ (b ∷ [])) ≡ little (take (suc k) xs) + 256 ^ suc k * (b + 256 * 0) = rw n at a in
    let z : b + 256 * 0 ≡ b = omega arith in
    let w : 256 ^ suc k * (b + 256 * 0) ≡ b * 256 ^ suc k = rw z (mul_comm (256 ^ suc k) b) in
    let t = ap little (take-suc xs (suc k) 0 h) in
    cc

-- a number read from an array that holds the bytes
pub reads : {bs xs : List ℕ} {i r : ℕ} (k : ℕ) → xs ≡ take (i + suc k - i) (drop i bs) → i + suc k ≤ length bs → r < 256 ^ suc k → r ≡ sum_through (λ j. byte_worth j (slice_index xs j)) k → Reads bs i (suc k) r
reads {bs} {xs} {i} {r} k e h s t =
    let n : i + suc k - i ≡ suc k = omega arith in
    let w : xs ≡ take (suc k) (drop i bs) = rw n at e in
    let l : length xs ≡ suc k = rw w (length-take-le (suc k) (drop i bs) (omega (arith, length-drop i bs))) in
    let all : take (suc k) xs ≡ xs = take_all (suc k) xs (omega arith) in
    record { is = t ∙ summed k xs (omega arith) ∙ ap little (all ∙ w); small = s }

-- The words of a body ---------------------------------------------------------------------------------------

pub length_words : (k : ℕ) (bs : List ℕ) → length (words_in k bs) ≡ k
unfolding words_in
length_words zero bs = refl
length_words (suc k) bs = ap suc (length_words k (drop 8 bs))

word-from : (k i : ℕ) (bs : List ℕ) → i < k → get_or (words_in k bs) i 0 ≡ little (take 8 (drop (8 * i) bs))
unfolding words_in
word-from zero i bs h = absurd (omega arith)
word-from (suc k) zero bs h = refl
word-from (suc k) (suc i) bs h =
    let e : 8 + 8 * i ≡ 8 * suc i = omega arith in
    word-from k i (drop 8 bs) (omega arith) ∙ rw (drop-drop (8 * i) 8 bs, e)

pub word_at : (k i : ℕ) (body : List ℕ) → i < k → get_or (words_in k (drop 2 body)) i 0 ≡ little (take 8 (drop (2 + 8 * i) body))
word_at k i body h = word-from k i (drop 2 body) h ∙ rw (drop-drop (8 * i) 2 body)
