-- The place of a row in a sound node: rows rise, so the last entry whose row is not above q is the first one that the
-- next entry's row passes.
use Prim.Native.Nat.{ℕ, zero, suc, ◌+◌, ◌<◌, ◌≤◌}
use mathlib.Core.List.{List}
use mathlib.Core.Bool.{Bool}
use mathlib.Core.Path.{◌≡◌, sym, subst}
use mathlib.Core.Logic.{⊎_elim}
use native.Mathlib.Omega.{arith}
use native.Mathlib.Nat.{eq-or-lt_of_le}
use lib.Dec.{T, leb, ltb, ltb→lt}
use borrow.Author.Tests.{lt-ltb, le-ltb, le-leb, lt-leb, leb-true, leb-false}
use Rattle.model.specs.Words.{Shape, pick, row, child}
use Rattle.model.specs.Tree.{Limit, Below, pairs_from, next, all_pairs}
use Rattle.model.specs.Reading.{last_not_above}
use Rattle.model.proofs.Tests.{and_l, and_r, by_test}
use Rattle.model.proofs.Sound.{rises}
use Rattle.model.proofs.Look.{choose}

module _ (C : Shape) (w : List ℕ) (n : ℕ) where
  -- entry j among entries i to i + k, and what is next for it
  abbrev pub next_at : ℕ → Limit → ℕ → Limit
  next_at e b j = pick (ltb (j + 1) e) (Below (row C w n (j + 1))) b

  pub all-at : {K : Type 0} (f : ℕ → K) (Q : K → ℕ → Limit → Type 0) (i k : ℕ) (b : Limit) → all_pairs Q (pairs_from C w f n i k) b
      → (j : ℕ) → i ≤ j → j < i + k → Q (f (child C w n j)) (row C w n j) (next_at (i + k) b j)
  unfolding pairs_from all_pairs next
  all-at f Q i zero b a j l u = absurd (omega arith)
  all-at {K} f Q i (suc k) b a j l u =
      ⊎_elim
      (λ (e : i ≡ j). subst (λ (x : ℕ). Q (f (child C w n x)) (row C w n x) (next_at (i + suc k) b x)) e
      (subst (λ (c : Limit). Q (f (child C w n i)) (row C w n i) c) (first k) a.0))
      (λ (h : i < j). let s : i + 1 + k ≡ i + suc k = omega arith in
      subst (λ (x : ℕ). Q (f (child C w n j)) (row C w n j) (next_at x b j)) s (all-at f Q (i + 1) k b a.1 j (omega arith) (omega arith)))
      (eq-or-lt_of_le l)
    where
      first : (m : ℕ) → next (pairs_from C w f n (i + 1) m) b ≡ next_at (i + suc m) b i
      first zero = rw (le-ltb (i + 1) (i + suc zero) (omega arith))
      first (suc m) = rw (lt-ltb (i + 1) (i + suc (suc m)) (omega arith))

  -- rows i, …, i + k rise
  pub risen : {K : Type 0} (f : ℕ → K) (z : ℕ → Bool) (i k : ℕ) → T (rises z (row C w n i) (pairs_from C w f n (i + 1) k))
      → (a c : ℕ) → i ≤ a → a < c → c < i + 1 + k → row C w n a < row C w n c
  unfolding rises pairs_from
  risen f z i zero t a c l m u = absurd (omega arith)
  risen f z i (suc k) t a c l m u =
      let one : row C w n i < row C w n (i + 1) = ltb→lt (row C w n i) (row C w n (i + 1)) (and_l (ltb (row C w n i) (row C w n (i + 1))) (rises z (row C w n (i + 1)) (pairs_from C w f n (i + 1 + 1) k)) t) in
      let more = and_r (ltb (row C w n i) (row C w n (i + 1))) (rises z (row C w n (i + 1)) (pairs_from C w f n (i + 1 + 1) k)) t in
      ⊎_elim
      (λ (e : i ≡ a). ⊎_elim
      (λ (d : i + 1 ≡ c). subst (λ (x : ℕ). row C w n a < row C w n x) d (subst (λ (x : ℕ). row C w n x < row C w n (i + 1)) e one))
      (λ (d : i + 1 < c). let step = risen f z (i + 1) k more (i + 1) c (omega arith) d (omega arith) in
      subst (λ (x : ℕ). row C w n x < row C w n c) e (omega (arith, step)))
      (eq-or-lt_of_le (omega arith)))
      (λ (h : i < a). risen f z (i + 1) k more a c (omega arith) m (omega arith))
      (eq-or-lt_of_le l)

  module _ (q : ℕ) where
    -- from entry i on, k more
    unfoldable pub forth : ℕ → ℕ → ℕ
    forth i zero = i
    forth i (suc k) = pick (leb (row C w n (i + 1)) q) (forth (i + 1) k) i

    pub choose-at : {K : Type 0} (f : ℕ → K) (b : Limit) (i k : ℕ) → choose (row C w n i, f (child C w n i)) (pairs_from C w f n (i + 1) k) b q
        ≡ record { what = f (child C w n (forth i k)); low = row C w n (forth i k); high = next_at (i + 1 + k) b (forth i k) }
    unfolding choose pairs_from forth
    choose-at f b i zero = rw (le-ltb (i + 1) (i + 1 + zero) (omega arith))
    choose-at f b i (suc k) =
        by_test (leb (row C w n (i + 1)) q)
        (λ t. let s : i + 1 + 1 + k ≡ i + 1 + suc k = omega arith in rw (t, choose-at f b (i + 1) k, s))
        (λ t. rw (t, lt-ltb (i + 1) (i + 1 + suc k) (omega arith)))

    pub record Stands (i k j : ℕ) : Type 0 where
      pub low : i ≤ j
      pub high : j ≤ i + k
      pub here : row C w n j ≤ q
      pub past : j < i + k → q < row C w n (j + 1)

    pub forth-stands : (i k : ℕ) → row C w n i ≤ q → Stands i k (forth i k)
    unfolding forth
    forth-stands i zero h = record { low = omega arith; high = omega arith; here = h; past = λ l. absurd (omega arith) }
    forth-stands i (suc k) h =
        by_test (leb (row C w n (i + 1)) q)
        (λ t. let s = forth-stands (i + 1) k (leb-true _ _ t) in
        rw t (record { low = omega arith; high = omega arith; here = s.here; past = λ l. s.past (omega arith) }))
        (λ t. rw t (record { low = omega arith; high = omega arith; here = h; past = λ l. leb-false _ _ t }))

    pub last-at : (k j : ℕ) → j < k → row C w n j ≤ q → ((m : ℕ) → j < m → m < k → q < row C w n m) → last_not_above C w q n k ≡ j
    unfolding last_not_above
    last-at zero j l h u = absurd (omega arith)
    last-at (suc k) j l h u =
        ⊎_elim
        (λ (e : suc j ≡ suc k). let d : j ≡ k = omega arith in rw (le-leb (row C w n k) q (subst (λ (x : ℕ). row C w n x ≤ q) d h)) (sym d))
        (λ (d : suc j < suc k). rw (lt-leb (row C w n k) q (u k (omega arith) (omega arith))) (last-at k j (omega arith) h (λ m a b. u m a (omega arith))))
        (eq-or-lt_of_le l)

    -- the two agree on rising rows
    pub place_is : {K : Type 0} (f : ℕ → K) (z : ℕ → Bool) (i k : ℕ) → T (rises z (row C w n i) (pairs_from C w f n (i + 1) k)) → row C w n i ≤ q
        → last_not_above C w q n (i + 1 + k) ≡ forth i k
    place_is f z i k t h =
        let s = forth-stands i k h in
        let j = forth i k in
        last-at (i + 1 + k) j (omega (arith, s.high)) s.here
        (λ m a b. ⊎_elim
        (λ (e : suc j ≡ m). subst (λ (x : ℕ). q < row C w n x) e (subst (λ (x : ℕ). q < row C w n x) (omega arith) (s.past (omega arith))))
        (λ (d : suc j < m). omega (arith, s.past (omega arith), risen f z i k t (j + 1) m (omega (arith, s.low)) (omega arith) b))
        (eq-or-lt_of_le a))
