-- Pairs moved to the front one after the other are a range of words, as `copy_within` moves it: no word is read once it was
-- written.
use Prim.Native.Nat.{ℕ, zero, suc, ◌+◌, ◌*◌, ◌<◌, ◌≤◌}
use mathlib.Core.List.{List, [], ◌∷◌, ◌++◌}
use mathlib.Core.Path.{◌≡◌, sym, ap, ◌∙◌}
use native.Mathlib.Omega.{arith}
use Rattle.std.proofs.Common.{append_assoc}
use lib.ListN.{length, length-set, set, get_or, take, drop}
use lib.Seq.{paste, paste-zero, take-suc-set, drop-cons, get_or-set_other}
use Rattle.std.proofs.lemmas.List.{drop-set-lt}
use Rattle.model.specs.Words.{Shape, shape, Pairs, word_place, put, part, row_place, child_place, Header}
use Rattle.model.specs.Prune.{moved}
use Rattle.model.proofs.Parts.{pairs_inside}
use Rattle.model.proofs.Words.{in_pairs_lem}

-- one word, then k more
one_more : (w : List ℕ) (from to k : ℕ) → from < length w → to ≤ from
    → paste (set w to (get_or w from 0)) (suc to) (drop (suc from) (set w to (get_or w from 0))) k ≡ paste w to (drop from w) (suc k)
one_more w from to k a h =
    let x = get_or w from 0 in
    let rest = take k (drop (suc from) w) in
    let e : suc to + k ≡ to + suc k = omega arith in
    ap (λ (r : List ℕ). r ++ take k (drop (suc from) (set w to x)) ++ drop (suc to + k) (set w to x)) (take-suc-set w to x (omega arith))
    ∙ ap (λ (r : List ℕ). take to w ++ x ∷ [] ++ take k r ++ drop (suc to + k) (set w to x)) (drop-set-lt (suc from) w to x (omega arith))
    ∙ ap (λ (r : List ℕ). take to w ++ x ∷ [] ++ rest ++ r) (drop-set-lt (suc to + k) w to x (omega arith) ∙ ap (λ (n : ℕ). drop n w) e)
    ∙ ap (λ (r : List ℕ). r ++ drop (to + suc k) w) (append_assoc (take to w) (x ∷ []) rest)
    ∙ ap (λ (r : List ℕ). take to w ++ take (suc k) r ++ drop (to + suc k) w) (sym (drop-cons w from 0 a))

module _ (C : ℕ) where
  abbrev S : Shape
  S = shape Pairs C

  -- pairs k + i and on of node n, m of them, become its pairs i and on
  move-range : (n k m i : ℕ) (w : List ℕ) → word_place S n (row_place (k + i)) + 2 * m ≤ length w
      → moved S w n k i m ≡ paste w (word_place S n (row_place i)) (drop (word_place S n (row_place (k + i))) w) (2 * m)
  unfolding moved put part
  move-range n k zero i w l = paste-zero w (word_place S n (row_place i)) (drop (word_place S n (row_place (k + i))) w)
  move-range n k (suc m) i w l =
      let from = word_place S n (row_place (k + i)) in
      let to = word_place S n (row_place i) in
      let le : to ≤ from = omega (arith, in_pairs_lem C n (row_place i), in_pairs_lem C n (row_place (k + i))) in
      let x = get_or w from 0 in
      let u = set w to x in
      let y = get_or u (suc from) 0 in
      let v = set u (suc to) y in
      let p : word_place S n (row_place (k + (i + 1))) ≡ suc (suc from) = omega (arith, in_pairs_lem C n (row_place (k + i)), in_pairs_lem C n (row_place (k + (i + 1)))) in
      let q : word_place S n (row_place (i + 1)) ≡ suc (suc to) = omega (arith, in_pairs_lem C n (row_place i), in_pairs_lem C n (row_place (i + 1))) in
      let a : word_place S n (child_place (k + i)) ≡ suc from = omega (arith, in_pairs_lem C n (row_place (k + i)), in_pairs_lem C n (child_place (k + i))) in
      let b : word_place S n (child_place i) ≡ suc to = omega (arith, in_pairs_lem C n (row_place i), in_pairs_lem C n (child_place i)) in
      let z : get_or w (suc from) 0 ≡ y = sym (get_or-set_other w to (suc from) x 0 (λ (e : suc from ≡ to). omega arith)) in
      let two : suc (suc (2 * m)) ≡ 2 * suc m = omega arith in
      let d : length u ≡ length w = length-set w to x in
      let f : length v ≡ length u = length-set u (suc to) y in
      ap (λ (r : ℕ). moved S (set u (word_place S n (child_place i)) (get_or w r 0)) n k (i + 1) m) a
      ∙ ap (λ (r : ℕ). moved S (set u r (get_or w (suc from) 0)) n k (i + 1) m) b
      ∙ ap (λ (r : ℕ). moved S (set u (suc to) r) n k (i + 1) m) z
      ∙ move-range n k m (i + 1) v (omega arith)
      ∙ ap (λ (r : ℕ). paste v r (drop (word_place S n (row_place (k + (i + 1)))) v) (2 * m)) q
      ∙ ap (λ (r : ℕ). paste v (suc (suc to)) (drop r v) (2 * m)) p
      ∙ one_more u (suc from) (suc to) (2 * m) (omega arith) (omega arith)
      ∙ one_more w from to (suc (2 * m)) (omega arith) le
      ∙ ap (paste w to (drop from w)) two

  pub moved_is : (P n k m : ℕ) (w : List ℕ) → Header C P w → n < P → k + m ≤ C
      → moved S w n k 0 m ≡ paste w (word_place S n (row_place 0)) (drop (word_place S n (row_place 0) + 2 * k) w) (2 * m)
  moved_is P n k m w hd a b =
      let from : word_place S n (row_place (k + 0)) ≡ word_place S n (row_place 0) + 2 * k = omega (arith, in_pairs_lem C n (row_place (k + 0)), in_pairs_lem C n (row_place 0)) in
      move-range n k m 0 w (omega (arith, pairs_inside C P w hd n (k + m) a b))
      ∙ ap (λ (r : ℕ). paste w (word_place S n (row_place 0)) (drop r w) (2 * m)) from
