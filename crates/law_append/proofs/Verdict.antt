-- What each verdict tells.
use Prim.Native.Nat.{ℕ, ◌+◌, ◌<◌, ◌≤◌}
use mathlib.Core.List.{List, [], ◌∷◌}
use mathlib.Core.Bool.{Bool, true, false, ◌&&◌, ◌||◌}
use mathlib.Core.Path.{◌≡◌, refl, sym, subst}
use mathlib.Core.Logic.{◌⊎◌, inl, inr}
use native.Mathlib.Omega.{arith}
use lib.Dec.{ltb, eqb}
use borrow.Author.Tests.{ltb-true, ltb-false, eqb-false, lt-ltb, le-ltb, ne_eqb}
use Rattle.model.specs.Words.{row_limit, max_height}
use Rattle.model.specs.Refusals.{Answer, result, refused, Outcome}
use Rattle.model.proofs.Tests.{by_test}
use Rattle.law_append.specs.Inserted.{verdict, Passes, told}

or-none : (a b : Bool) → (a || b) ≡ false → (a ≡ false) × (b ≡ false)
or-none true b e = let z : ◌≡◌ {A = ℕ} 0 1 = cc in absurd (omega arith)
or-none false b e = (refl, e)

and_none : (a b : Bool) → (a && b) ≡ false → a ≡ true → b ≡ false
and_none true b e t = e
and_none false b e t = let z : ◌≡◌ {A = ℕ} 0 1 = cc in absurd (omega arith)

module _ (k s h n free : ℕ) where
  pub data Ruled : Answer → Type 0 where
    four : Ruled (refused 4 0)
    six : Ruled (refused 6 0)
    five : Passes k s h n → free < n → Ruled (refused 5 n)
    fine : Passes k s h n → n ≤ free → Ruled (result (s ∷ (s + k) ∷ n ∷ []))

  passes : (eqb k 0 || ltb row_limit (s + k)) ≡ false → (ltb h n && eqb h max_height) ≡ false → Passes k s h n
  passes t u =
      let a = or-none (eqb k 0) (ltb row_limit (s + k)) t in
      record {
        some = omega (arith, eqb-false k 0 a.0);
        most = ltb-false row_limit (s + k) a.1;
        low = λ l. eqb-false h max_height (and_none (ltb h n) (eqb h max_height) u (lt-ltb h n l));
      }

  pub ruled : Ruled (verdict k s h n free)
  unfolding verdict
  ruled =
      by_test (eqb k 0 || ltb row_limit (s + k)) (λ t. rw t four)
      (λ t. by_test (ltb h n && eqb h max_height) (λ u. rw (t, u) six)
      (λ u. by_test (ltb free n) (λ v. rw (t, u, v) (five (passes t u) (ltb-true free n v)))
      (λ v. rw (t, u, v) (fine (passes t u) (ltb-false free n v)))))

  -- the tests that pass
  passed-four : Passes k s h n → (eqb k 0 || ltb row_limit (s + k)) ≡ false
  passed-four p = rw (ne_eqb k 0 (omega (arith, p.some)), le-ltb row_limit (s + k) p.most)

  passed-six : Passes k s h n → (ltb h n && eqb h max_height) ≡ false
  passed-six p = by_test (ltb h n) (λ t. rw (t, ne_eqb h max_height (p.low (ltb-true h n t)))) (λ t. rw t)

  pub verdict-five : Passes k s h n → free < n → verdict k s h n free ≡ refused 5 n
  unfolding verdict
  verdict-five p l = rw (passed-four p, passed-six p, lt-ltb free n l)

  pub verdict-fine : Passes k s h n → n ≤ free → verdict k s h n free ≡ result (s ∷ (s + k) ∷ n ∷ [])
  unfolding verdict
  verdict-fine p l = rw (passed-four p, passed-six p, le-ltb free n l)

  pub accepted : (a : Answer) → Ruled a → (l : List ℕ) → a ≡ result l → Passes k s h n × (n ≤ free) × (l ≡ s ∷ (s + k) ∷ n ∷ [])
  accepted _ four l e = let z : ◌≡◌ {A = ℕ} 0 1 = cc in absurd (omega arith)
  accepted _ six l e = let z : ◌≡◌ {A = ℕ} 0 1 = cc in absurd (omega arith)
  accepted _ (five p f) l e = let z : ◌≡◌ {A = ℕ} 0 1 = cc in absurd (omega arith)
  accepted _ (fine p f) l e = (p, f, cc)

  -- a refusal is 4, 6 or 5
  pub refusals : (a : Answer) → Ruled a → (c d : ℕ) → a ≡ refused c d → (c ≡ 4) ⊎ ((c ≡ 6) ⊎ ((c ≡ 5) × (d ≡ n) × Passes k s h n × (free < n)))
  refusals _ four c d e = inl (cc)
  refusals _ six c d e = inr (inl (cc))
  refusals _ (five p f) c d e = inr (inr (cc, cc, p, f))
  refusals _ (fine p f) c d e = let z : ◌≡◌ {A = ℕ} 0 1 = cc in absurd (omega arith)

-- the words told are the words
told_self : (w v : List ℕ) (a : Answer) → told w v a ≡ told w (told w v a).words a
unfolding told
told_self w v (result l) = refl
told_self w v (refused c d) = refl

pub told-words : (w v : List ℕ) (a : Answer) (o : Outcome) → o ≡ told w v a → o ≡ told w o.words a
told-words w v a o e = subst (λ (z : Outcome). z ≡ told w z.words a) (sym e) (told_self w v a)

pub told-answer : (w v : List ℕ) (a : Answer) → (told w v a).answer ≡ a
unfolding told
told-answer w v (result l) = refl
told-answer w v (refused c d) = refl
