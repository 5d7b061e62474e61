-- What lies below a row goes; pairs that go stand in front of those that stay.
use Prim.Native.Nat.{ℕ, zero, suc, ◌+◌, ◌<◌, ◌≤◌}
use mathlib.Core.List.{List, [], ◌∷◌, ◌++◌, append-nil, append_assoc}
use mathlib.Core.Path.{◌≡◌, refl, sym, ap, ◌∙◌, subst}
use native.Mathlib.Omega.{arith}
use borrow.Author.Tests.{lt-ltb}
use Rattle.model.specs.Words.{Shape, row, child}
use Rattle.model.specs.Tree.{Limit, Below, Level, pairs_from, next, all_pairs, Under, AllSound}
use Rattle.model.specs.Reading.{in_pairs, nodes}
use Rattle.model.specs.Cut.{Rest, gone, if_gone, keep, cut_pairs, trim, cut, went_pairs, went, trims_pairs}
use Rattle.model.proofs.Sound.{chain, sound-below, sound-ends, last-is}
use Rattle.law_prune.proofs.Rests.{by_rest}
use Rattle.law_prune.proofs.Went.{pairs-went, rest-nodes}

module _ {K : Type 0} (e : ℕ) (f : K → ℕ → Rest K) where
  pub first-gone : (p : ℕ × K) (ps : List (ℕ × K)) → cut_pairs e f (p ∷ ps) ≡ [] → (f p.1 p.0 ≡ gone) × (cut_pairs e f ps ≡ [])
  unfolding cut_pairs keep
  first-gone p ps q =
      by_rest (f p.1 p.0) (λ g. (g, rw g at q))
      (λ y g. let z = rw g at q in let n : ◌≡◌ {A = ℕ} 0 1 = cc in absurd (omega arith))

  pub gone_cons : (p : ℕ × K) (ps : List (ℕ × K)) → f p.1 p.0 ≡ gone → cut_pairs e f (p ∷ ps) ≡ cut_pairs e f ps
  unfolding cut_pairs keep
  gone_cons p ps g = rw g

  pub cut-append : (ps qs : List (ℕ × K)) → cut_pairs e f ps ≡ [] → cut_pairs e f (ps ++ qs) ≡ cut_pairs e f qs
  cut-append [] qs z = refl
  cut-append (p ∷ ps) qs z = let g = first-gone p ps z in gone_cons p (ps ++ qs) g.0 ∙ cut-append ps qs g.1

  pub went-append : (g : K → ℕ → List ℕ) (ps qs : List (ℕ × K)) → cut_pairs e f ps ≡ [] → went_pairs f g (ps ++ qs) ≡ went_pairs f g ps ++ went_pairs f g qs
  unfolding went_pairs if_gone
  went-append g [] qs z = refl
  went-append g (p ∷ ps) qs z =
      let q = first-gone p ps z in
      rw (q.0, went-append g ps qs q.1) (sym (append_assoc (g p.1 p.0) (went_pairs f g ps) (went_pairs f g qs)))

  pub trims-append : (g : K → ℕ → List (ℕ × ℕ)) (ps qs : List (ℕ × K)) → cut_pairs e f ps ≡ [] → trims_pairs f g (ps ++ qs) ≡ trims_pairs f g qs
  unfolding trims_pairs if_gone
  trims-append g [] qs z = refl
  trims-append g (p ∷ ps) qs z = let q = first-gone p ps z in rw q.0 (trims-append g ps qs q.1)

-- pairs i, …, a + b of them
pub pairs-split : {K : Type 0} (C : Shape) (w : List ℕ) (f : ℕ → K) (n i a b : ℕ) → pairs_from C w f n i (a + b) ≡ pairs_from C w f n i a ++ pairs_from C w f n (i + a) b
unfolding pairs_from
pairs-split C w f n i zero b = let z : 0 + b ≡ b = omega arith in let y : i + 0 ≡ i = omega arith in rw (z, y)
pairs-split {K} C w f n i (suc a) b =
    let z : suc a + b ≡ suc (a + b) = omega arith in
    let y : i + 1 + a ≡ i + suc a = omega arith in
    rw z (ap (λ (l : List (ℕ × K)). (row C w n i, f (child C w n i)) ∷ l) (pairs-split C w f n (i + 1) a b ∙ rw y))

-- nodes below pairs that go are all that went of them
pub all-went : (h e : ℕ) (ps : List (ℕ × Level h)) → cut_pairs e (cut h e) ps ≡ [] → went_pairs (cut h e) (went h e) ps ≡ in_pairs (nodes h) ps
unfolding in_pairs
all-went h e ps z = sym (pairs-went e (cut h e) (went h e) (nodes h) (rest-nodes h e) ps ∙ rw z (append-nil (went_pairs (cut h e) (went h e) ps)))

module _ (C : Shape) (P e : ℕ) where
  -- pairs that end at x, where each that ends at or below e goes
  pub pairs-go : (h : ℕ) → ((t : Level h) (r y : ℕ) → AllSound C P h t r (Below y) → y ≤ e → cut h e t r ≡ gone) → (x : ℕ) → x ≤ e → (ps : List (ℕ × Level h)) → all_pairs (AllSound C P h) ps (Below x) → cut_pairs e (cut h e) ps ≡ []
  unfolding all_pairs cut_pairs keep next Under
  pairs-go h law x l [] a = refl
  pairs-go h law x l (p ∷ []) a = rw (law p.1 p.0 x a.0 l)
  pairs-go h law x l (p ∷ q ∷ ps) a =
      let u : q.0 < x = chain (AllSound C P h) (sound-below C P h) q ps (Below x) a.1 in
      gone_cons e (cut h e) p (q ∷ ps) (law p.1 p.0 q.0 a.0 (omega (arith, u))) ∙ pairs-go h law x l (q ∷ ps) a.1

  -- the law
  pub goes : (h : ℕ) (t : Level h) (r x : ℕ) → AllSound C P h t r (Below x) → x ≤ e → cut h e t r ≡ gone
  unfolding AllSound cut trim Under
  goes zero t r x g l = rw (lt-ltb r e (omega arith))
  goes (suc h) t r x g l =
      let u : r < x = sound-below C P (suc h) t r (Below x) g in
      let a : all_pairs (AllSound C P h) t.pairs (Below x) = subst (λ (b : Limit). all_pairs (AllSound C P h) t.pairs b) (last-is h t x (sound-ends C h t r (Below x) g.1)) g.2 in
      rw (lt-ltb r e (omega arith), pairs-go h (goes h) x l t.pairs a)
