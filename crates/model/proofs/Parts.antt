-- The part of the words that holds a node's pairs: each is a row and its number, in turn.
use Prim.Native.Nat.{ℕ, suc, ◌+◌, ◌*◌, ◌≤◌, ◌<◌}
use mathlib.Core.Path.{◌≡◌, ◌∙◌, ap}
use mathlib.Core.List.{List, ◌∷◌}
use native.Mathlib.Omega.{arith}
use lib.ListN.{length, take, drop, get_or, length-take}
use lib.Seq.{drop-cons}
use Rattle.model.specs.Words.{Pairs, Shape, shape, word_place, part, row, child, row_place, child_place, pair_words, Header}
use Rattle.model.proofs.Words.{in_pairs_lem, place_lt}

pub pair_first : (C P : ℕ) (w : List ℕ) → Header C P w → (n i k : ℕ) → n < P → i + suc k ≤ C
    → pair_words (shape Pairs C) w n i (suc k) ≡ row (shape Pairs C) w n i ∷ child (shape Pairs C) w n i ∷ pair_words (shape Pairs C) w n (i + 1) k
unfolding part
pair_first C P w hd n i k l h =
    let S = shape Pairs C in
    let a = word_place S n (row_place i) in
    let two : 2 * suc k ≡ suc (suc (2 * k)) = omega arith in
    let x : suc a ≡ word_place S n (child_place i) = omega (arith, in_pairs_lem C n (row_place i), in_pairs_lem C n (child_place i)) in
    let next : suc (suc a) ≡ word_place S n (row_place (i + 1)) = omega (arith, in_pairs_lem C n (row_place i), in_pairs_lem C n (row_place (i + 1))) in
    let inside = place_lt S P n (child_place i) l (omega arith) in
    ap (λ (m : ℕ). take m (drop a w)) two
    ∙ ap (take (suc (suc (2 * k)))) (drop-cons w a 0 (omega (arith, inside, x, hd.long)) ∙ ap (λ (t : List ℕ). get_or w a 0 ∷ t) (drop-cons w (suc a) 0 (omega (arith, inside, x, hd.long))))
    ∙ ap (λ (m : ℕ). get_or w a 0 ∷ get_or w (suc a) 0 ∷ take (2 * k) (drop m w)) next
    ∙ ap (λ (m : ℕ). get_or w a 0 ∷ get_or w m 0 ∷ pair_words S w n (i + 1) k) x

-- no more than they are
pub pairs-few : (C : Shape) (w : List ℕ) (n i k : ℕ) → length (pair_words C w n i k) ≤ 2 * k
pairs-few C w n i k = omega (arith, length-take (2 * k) (drop (word_place C n (row_place i)) w))

-- all of them lie in the store
pub pairs_inside : (C P : ℕ) (w : List ℕ) → Header C P w → (n k : ℕ) → n < P → k ≤ C → word_place (shape Pairs C) n (row_place 0) + 2 * k ≤ length w
pairs_inside C P w hd n k l h =
    let S = shape Pairs C in
    omega (arith, place_lt S P n (3 + 2 * k) l (omega arith), in_pairs_lem C n (3 + 2 * k), in_pairs_lem C n 4, hd.long)
