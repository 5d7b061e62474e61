-- The cut tree is well-formed, and starts at the end.
use Prim.Native.Nat.{ℕ, zero, suc, ◌<◌, ◌≤◌}
use mathlib.Core.List.{List, [], ◌∷◌, ◌++◌}
use mathlib.Core.Bool.{Bool, true, false, ◌||◌}
use mathlib.Core.Path.{◌≡◌, refl, sym, ◌∙◌, subst}
use native.Mathlib.Omega.{arith}
use lib.ListN.{length}
use lib.Dec.{T, ltb, eqb, eqb→eq}
use borrow.Author.Tests.{lt-ltb, ltb-true, ltb-false}
use Rattle.model.specs.Words.{Shape, NONE}
use Rattle.model.specs.Tree.{Limit, Open, Below, Level, next, last, end_sound, over_pairs, all_pairs, Under}
use Rattle.model.specs.Reading.{Entry, entries, end_fits}
use Rattle.model.specs.Cut.{Rest, gone, stays, keep, cut_pairs, trim, cut}
use Rattle.model.proofs.Tests.{by_test, and_r, both}
use Rattle.model.proofs.Sound.{rows, rises, Soundly, soundly, sound_of, sound-below}
use Rattle.law_formed.specs.Well.{Well}
use Rattle.law_formed.proofs.Clean.{well-sound}
use Rattle.law_prune.specs.Cutting.{drop_to, Lands}
use Rattle.law_prune.proofs.Rests.{up_to, with_pairs, cut-length, T-lt, T-eq}
use Rattle.law_prune.proofs.Stay.{Starts, starts, Some, some, sound-starts, drop-none, drop-gone, drop-some, CutTo, rest-entries}

lands-some : (e : ℕ) (a b : List Entry) → Some a → Lands e (a ++ b) → Lands e a
unfolding Lands
lands-some e _ b (some x l) p = p

lands-start : (e r : ℕ) (a : List Entry) → Starts r a → Lands e a → r ≡ e
unfolding Lands
lands-start e r _ (starts x l p) q = sym p ∙ q

or_l : (a b : Bool) → T a → T (a || b)
or_l true b s = tt
or_l false b s = absurd s

or_r : (a b : Bool) → T b → T (a || b)
or_r true b s = tt
or_r false b s = s

or_elim : {A : Type 0} (a b : Bool) → (T a → A) → (T b → A) → T (a || b) → A
or_elim true b f g s = f tt
or_elim false b f g s = g s

-- what is left of a pair of row r fits at e
unfoldable pub RestFits : {K : Type 0} → (K → ℕ → Limit → Type 0) → ℕ → Rest K → ℕ → Limit → Type 0
RestFits Q e gone r b = Unit {0}
RestFits Q e (stays x) r b = Q x e b × (up_to e r ≡ e)

unfoldable pub PairsFit : {K : Type 0} → (K → ℕ → Limit → Type 0) → (ℕ → Bool) → ℕ → List (ℕ × K) → Limit → Type 0
PairsFit Q z e [] b = Unit {0}
PairsFit Q z e (k ∷ ps) b = (k.0 ≡ e) × T (rises z e ps) × all_pairs Q (k ∷ ps) b

module _ {K : Type 0} (e : ℕ) (f : K → ℕ → Rest K) (en : K → ℕ → Limit → List Entry) (Q : K → ℕ → Limit → Type 0)
    (below : (x : K) (r : ℕ) (b : Limit) → Q x r b → Under r b)
    (cuts : (x : K) (r : ℕ) (b : Limit) → Q x r b → CutTo en e (f x r) r b (drop_to e (en x r b)))
    (fit : (x : K) (r : ℕ) (b : Limit) → Q x r b → Lands e (drop_to e (en x r b)) → RestFits Q e (f x r) r b)
    (z : ℕ → Bool) (end : Limit) (zok : (x y : K) (r : ℕ) → f x r ≡ stays y → r < e → Under e end → T (z e)) where
  -- rows rise from e where a pair stays
  rise-here : (x y : K) (r : ℕ) (ps : List (ℕ × K)) → f x r ≡ stays y → up_to e r ≡ e → Q y e (next ps end) → T (rises z r ps) → T (rises z e ps)
  unfolding rises next Under
  rise-here x y r [] p u q t = by_test (ltb r e) (λ v. zok x y r p (ltb-true r e v) (below y e end q)) (λ v. subst (λ (k : ℕ). T (z k)) (rw v at u) t)
  rise-here x y r (k ∷ ps) p u q t = both (ltb e k.0) (rises z k.0 ps) (T-lt e k.0 (below y e (Below k.0) q)) (and_r (ltb r k.0) (rises z k.0 ps) t)

  child_fits : (x : K) (r : ℕ) (ps more : List (ℕ × K)) (c : Rest K) → f x r ≡ c → RestFits Q e c r (next ps end) → T (rises z r ps) → all_pairs Q ps end
      → (c ≡ gone → PairsFit Q z e more end) → PairsFit Q z e (keep e r c ps more) end
  unfolding PairsFit keep RestFits all_pairs
  child_fits x r ps more gone p q t a m = m refl
  child_fits x r ps more (stays y) p q t a m = (q.1, rise-here x y r ps p q.1 q.0 t, (subst (λ (k : ℕ). Q y k (next ps end)) (sym q.1) q.0, a))

  lands-first : (x : K) (r : ℕ) (b : Limit) (c : Rest K) (es : List Entry) → CutTo en e c r b (drop_to e (en x r b)) → Lands e (drop_to e (en x r b ++ es)) → Lands e (drop_to e (en x r b))
  unfolding CutTo Lands
  lands-first x r b gone es p l = rw p tt
  lands-first x r b (stays y) es p l = lands-some e (drop_to e (en x r b)) es p.1 (rw (drop-some e (en x r b) es p.1) at l)

  pub pairs-fit : (k : ℕ × K) (ps : List (ℕ × K)) → all_pairs Q (k ∷ ps) end → Lands e (drop_to e (over_pairs en (k ∷ ps) end)) → T (rises z k.0 ps) → PairsFit Q z e (cut_pairs e f (k ∷ ps)) end
  unfolding all_pairs over_pairs cut_pairs rises next PairsFit CutTo
  pairs-fit k [] a l t =
      let b = end in
      let c = cuts k.1 k.0 b a.0 in
      child_fits k.1 k.0 [] [] (f k.1 k.0) refl (fit k.1 k.0 b a.0 (lands-first k.1 k.0 b (f k.1 k.0) [] c l)) t tt (λ p. tt)
  pairs-fit k (k₂ ∷ ps) a l t =
      let b = Below k₂.0 in
      let c = cuts k.1 k.0 b a.0 in
      let es = over_pairs en (k₂ ∷ ps) end in
      child_fits k.1 k.0 (k₂ ∷ ps) (cut_pairs e f (k₂ ∷ ps)) (f k.1 k.0) refl (fit k.1 k.0 b a.0 (lands-first k.1 k.0 b (f k.1 k.0) es c l)) t a.1
      (λ p. pairs-fit k₂ ps a.1 (rw (drop-gone e (en k.1 k.0 b) es (subst (λ (d : Rest K). CutTo en e d k.0 b (drop_to e (en k.1 k.0 b))) p c)) at l) (and_r (ltb k.0 k₂.0) (rises z k₂.0 ps) t))

  pub rows_fit : (r : ℕ) (ps : List (ℕ × K)) → T (rows z r ps) → all_pairs Q ps end → Lands e (drop_to e (over_pairs en ps end)) → PairsFit Q z e (cut_pairs e f ps) end
  unfolding rows
  rows_fit r [] t a l = absurd t
  rows_fit r (k ∷ ps) t a l = pairs-fit k ps a l (and_r (eqb k.0 r) (rises z k.0 ps) t)

-- the end of a node stays above its last row
end_ok : (h e to : ℕ) (b : Limit) → T (end_fits (suc h) b to) → Under e b → T (end_sound (suc h) b to e)
unfolding end_fits end_sound Under
end_ok h e to Open t u = or_l (eqb to NONE) (ltb e to) t
end_ok h e to (Below x) t u =
    or_elim (eqb to NONE) (eqb to x) (or_l (eqb to NONE) (ltb e to)) (λ v. or_r (eqb to NONE) (ltb e to) (T-lt e to (omega (arith, eqb→eq to x v)))) t

last_ok : (h e to : ℕ) (b : Limit) → T (end_fits h b to) → (x y : Level h) (r : ℕ) → cut h e x r ≡ stays y → r < e → Under e (last h to b) → T (end_sound h b to e)
unfolding cut last
last_ok zero e to b t x y r p l u = let q : gone ≡ stays y = rw (lt-ltb r e l) at p in let n : ◌≡◌ {A = ℕ} 0 1 = cc in absurd (omega arith)
last_ok (suc h) e to b t x y r p l u = end_ok h e to b t u

module _ (C : Shape) (P : ℕ) where
  trim-well : (h e : ℕ) (t : Level (suc h)) (r : ℕ) (b : Limit) (ps : List (ℕ × Level h)) → Well C P (suc h) t r b → r < e → length ps ≤ length t.pairs
      → PairsFit (Well C P h) (end_sound h b t.end) e ps (last h t.end b) → RestFits (Well C P (suc h)) e (trim e t ps) r b
  unfolding Well trim RestFits PairsFit rows
  trim-well h e t r b [] g l n q = tt
  trim-well h e t r b (k ∷ ps) g l n q =
      let s = soundly C h t r b g.1 in
      let new : Soundly C h (with_pairs e t (k ∷ ps)) e b = record {
        high = s.high;
        many = omega (arith, s.many);
        begin = refl;
        rise = both (eqb k.0 e) (rises (end_sound h b t.end) k.0 ps) (T-eq k.0 e q.0) (rw q.0 q.1);
      } in
      ((g.0, sound_of C h (with_pairs e t (k ∷ ps)) e b new, g.2, q.2), rw (lt-ltb r e l))

  untouched : (h e : ℕ) (t : Level h) (r : ℕ) (b : Limit) → Well C P h t r b → Lands e (drop_to e (entries h t r b)) → ltb r e ≡ false → Well C P h t e b × (up_to e r ≡ e)
  untouched h e t r b g l u =
      let s = sound-starts C P h t r b (well-sound C P h t r b g) in
      let q = lands-start e r (entries h t r b) s (rw (drop-none e r (entries h t r b) s (ltb-false r e u)) at l) in
      (subst (λ (k : ℕ). Well C P h t k b) q g, rw u q)

  -- the law
  pub rest-well : (h e : ℕ) (t : Level h) (r : ℕ) (b : Limit) → Well C P h t r b → Lands e (drop_to e (entries h t r b)) → RestFits (Well C P h) e (cut h e t r) r b
  unfolding cut RestFits Well entries
  rest-well zero e x r b g l = by_test (ltb r e) (λ u. rw u tt) (λ u. rw (u, RestFits) (untouched 0 e x r b g l u))
  rest-well (suc h) e t r b g l =
      by_test (ltb r e)
      (λ u. rw u (trim-well h e t r b (cut_pairs e (cut h e) t.pairs) g (ltb-true r e u) (cut-length e (cut h e) t.pairs)
      (rows_fit e (cut h e) (entries h) (Well C P h) (λ x r₂ b₂ q. sound-below C P h x r₂ b₂ (well-sound C P h x r₂ b₂ q))
      (λ x r₂ b₂ q. rest-entries C P h e x r₂ b₂ (well-sound C P h x r₂ b₂ q)) (rest-well h e)
      (end_sound h b t.end) (last h t.end b) (last_ok h e t.end b g.2) r t.pairs (soundly C h t r b g.1).rise g.3 l)))
      (λ u. rw (u, RestFits) (untouched (suc h) e t r b g l u))
