-- Branch ends: on a sound tree the bound carried down is the end of the last leaf, so the end that 01 asks for is the
-- one that the walk compares with.
use Prim.Native.Nat.{ℕ, zero, suc}
use mathlib.Core.List.{List, [], ◌∷◌}
use mathlib.Core.Bool.{Bool, true, false, ◌||◌}
use mathlib.Core.Path.{◌≡◌, sym, ◌∙◌, subst}
use mathlib.Core.Logic.{◌⊎◌, inl, inr, ⊎_elim}
use lib.Dec.{T, ltb, leb, eqb, eqb→eq, eqb_refl}
use Rattle.model.specs.Words.{Shape, NONE, row_limit}
use Rattle.model.specs.Tree.{Limit, Open, Below, end_sound, Level, next, last, all_pairs, AllSound}
use Rattle.model.specs.Reading.{end_fits}
use Rattle.model.specs.WellFormed.{of_last, last_end, OffEdge, EndFits, EndsFit}
use Rattle.model.proofs.Sound.{Begins, begins, sound-begins, sound-ends, meets-is}
use Rattle.law_formed.specs.Well.{Well}
use Rattle.law_formed.proofs.Pairs.{all_both, all_map}
use Rattle.law_formed.proofs.Clean.{well-sound}

either : (a b : Bool) → T (a || b) → T a ⊎ T b
either true b t = inl tt
either false b t = inr t

or_l : (a b : Bool) → T a → T (a || b)
or_l true b t = tt
or_l false b t = absurd t

or_r : (a b : Bool) → T b → T (a || b)
or_r true b t = tt
or_r false b t = t

same : (a b : ℕ) → a ≡ b → T (eqb a b)
same a b e = subst (λ (x : ℕ). T (eqb a x)) e (eqb_refl a)

module _ {K : Type 0} (Q : K → ℕ → Limit → Type 0) (f : K → ℕ) (s : ℕ) (b : Limit) (g : (x : K) (r : ℕ) → Q x r b → f x ≡ s) where
  last-child : (p : ℕ × K) (ps : List (ℕ × K)) → all_pairs Q (p ∷ ps) b → of_last f (p ∷ ps) ≡ s
  unfolding all_pairs of_last next
  last-child p [] a = g p.1 p.0 a.0
  last-child p (q ∷ ps) a = last-child q ps a.1

  last-begun : (r : ℕ) (ps : List (ℕ × K)) → Begins r ps → all_pairs Q ps b → of_last f ps ≡ s
  last-begun r _ (begins x ps) a = last-child (r, x) ps a

module _ (C : Shape) (P : ℕ) where
  -- the end of the last leaf is the bound
  pub tip : (h : ℕ) (t : Level (suc h)) (r s : ℕ) → AllSound C P (suc h) t r (Below s) → last_end h t ≡ s
  unfolding AllSound last_end last end_sound
  tip zero t r s g = let z = sound-ends C 0 t r (Below s) g.1 in meets-is (ltb z.0 t.end) (leb t.end row_limit) t.end s z.1
  tip (suc h) t r s g =
      last-begun (AllSound C P (suc h)) (last_end h) s (Below s) (λ x q a. tip h x q s a) r t.pairs (sound-begins C (suc h) t r (Below s) g.1) g.2

  pub fits-end : (h : ℕ) (t : Level (suc h)) (r : ℕ) (b : Limit) → AllSound C P (suc h) t r b → T (end_fits h b t.end) → EndFits h t b
  unfolding EndFits end_fits OffEdge
  fits-end zero t r b g f = tt
  fits-end (suc h) t r Open g f = inl (eqb→eq t.end NONE f)
  fits-end (suc h) t r (Below s) g f =
      ⊎_elim (λ q. inl (eqb→eq t.end NONE q)) (λ q. inr (tt, eqb→eq t.end s q ∙ sym (tip (suc h) t r s g))) (either (eqb t.end NONE) (eqb t.end s) f)

  pub end_fits_lem : (h : ℕ) (t : Level (suc h)) (r : ℕ) (b : Limit) → AllSound C P (suc h) t r b → EndFits h t b → T (end_fits h b t.end)
  unfolding EndFits end_fits OffEdge
  end_fits_lem zero t r b g e = tt
  end_fits_lem (suc h) t r Open g (inl e) = same t.end NONE e
  end_fits_lem (suc h) t r Open g (inr e) = absurd e.0
  end_fits_lem (suc h) t r (Below s) g (inl e) = or_l (eqb t.end NONE) (eqb t.end s) (same t.end NONE e)
  end_fits_lem (suc h) t r (Below s) g (inr e) = or_r (eqb t.end NONE) (eqb t.end s) (same t.end s (e.1 ∙ tip (suc h) t r s g))

  -- Well is AllSound with fitting ends
  pub sound-well : (h : ℕ) (t : Level h) (r : ℕ) (b : Limit) → AllSound C P h t r b → EndsFit h t r b → Well C P h t r b
  unfolding AllSound Well EndsFit
  sound-well zero t r b g e = g
  sound-well (suc h) t r b g e =
      (g.0, g.1, end_fits_lem h t r b g e.0, all_both (AllSound C P h) (EndsFit h) (Well C P h) (sound-well h) t.pairs (last h t.end b) g.2 e.1)

  pub well-ends : (h : ℕ) (t : Level h) (r : ℕ) (b : Limit) → Well C P h t r b → EndsFit h t r b
  unfolding Well EndsFit
  well-ends zero t r b g = tt
  well-ends (suc h) t r b g =
      (fits-end h t r b (well-sound C P (suc h) t r b g) g.2, all_map (Well C P h) (EndsFit h) (well-ends h) t.pairs (last h t.end b) g.3)
