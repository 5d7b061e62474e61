-- A tree is AllSound just where its visits show no Bad, and Well just where those that look at branch ends show none.
use Prim.Native.Nat.{ℕ, zero, suc}
use mathlib.Core.List.{List, [], ◌∷◌, ◌++◌}
use mathlib.Core.Bool.{Bool, true, false, ◌&&◌}
use mathlib.Core.Path.{◌≡◌, refl, sym, ◌∙◌, subst}
use native.Mathlib.Omega.{arith}
use lib.Dec.{T, ltb, eqb, ltb→lt}
use Rattle.model.specs.Words.{Shape, pick}
use Rattle.model.specs.Tree.{Limit, Open, Below, end_sound, sound, Level, next, last, over_pairs, all_pairs, Under, AllSound}
use Rattle.model.specs.Reading.{Visit, Enter, Leave, Bad, end_fits, passes, visits, Fault, clear, at, first_bad, unless_bad}
use Rattle.model.proofs.Tests.{and_l, and_r, both, by_test, is_true}
use Rattle.model.proofs.Sound.{rises, rows, soundly}
use Rattle.model.proofs.Frame.{Narrow}
use Rattle.law_formed.specs.Visits.{clean}
use Rattle.law_formed.specs.Well.{Well}
use Rattle.law_formed.proofs.Pairs.{all_map, all_any}

-- Visits with no Bad -------------------------------------------------------------------------------------

pub clear-clean : (vs : List Visit) → first_bad vs ≡ clear → T (clean vs)
unfolding first_bad clean
clear-clean [] e = tt
clear-clean (Enter n ∷ vs) e = clear-clean vs e
clear-clean (Leave n ∷ vs) e = clear-clean vs e
clear-clean (Bad n ∷ vs) e = let z : ◌≡◌ {A = ℕ} 0 1 = cc in absurd (omega arith)

pub clean-clear : (vs : List Visit) → T (clean vs) → first_bad vs ≡ clear
unfolding first_bad clean
clean-clear [] c = refl
clean-clear (Enter n ∷ vs) c = clean-clear vs c
clean-clear (Leave n ∷ vs) c = clean-clear vs c
clean-clear (Bad n ∷ vs) c = absurd c

pub clean-append : (a b : List Visit) → clean (a ++ b) ≡ (clean a && clean b)
unfolding clean
clean-append [] b = refl
clean-append (Enter n ∷ a) b = clean-append a b
clean-append (Leave n ∷ a) b = clean-append a b
clean-append (Bad n ∷ a) b = refl

module _ {K : Type 0} (f : K → ℕ → Limit → List Visit) where
  abbrev pub Clean : K → ℕ → Limit → Type 0
  Clean x r b = T (clean (f x r b))

  pub clean_all : (ps : List (ℕ × K)) (b : Limit) → T (clean (over_pairs f ps b)) → all_pairs Clean ps b
  unfolding over_pairs all_pairs
  clean_all [] b t = tt
  clean_all (p ∷ ps) b t =
      let u = subst T (clean-append (f p.1 p.0 (next ps b)) (over_pairs f ps b)) t in
      (and_l (clean (f p.1 p.0 (next ps b))) (clean (over_pairs f ps b)) u, clean_all ps b (and_r (clean (f p.1 p.0 (next ps b))) (clean (over_pairs f ps b)) u))

  all-clean : (ps : List (ℕ × K)) (b : Limit) → all_pairs Clean ps b → T (clean (over_pairs f ps b))
  unfolding over_pairs all_pairs clean
  all-clean [] b a = tt
  all-clean (p ∷ ps) b a =
      subst T (sym (clean-append (f p.1 p.0 (next ps b)) (over_pairs f ps b)))
      (both (clean (f p.1 p.0 (next ps b))) (clean (over_pairs f ps b)) a.0 (all-clean ps b a.1))

-- The rows of a leaf rise to its end ---------------------------------------------------------------------

rising : {K : Type 0} (b : Limit) (e r : ℕ) (x : K) (ps : List (ℕ × K)) → T (rises (end_sound 0 b e) r ps) → all_pairs (λ (y : K) s c. Under s c) ((r, x) ∷ ps) (Below e)
unfolding rises end_sound all_pairs next Under
rising b e r x [] t = (ltb→lt r e (search (and_l, and_r)), tt)
rising b e r x (p ∷ ps) t =
    (ltb→lt r p.0 (and_l (ltb r p.0) (rises (end_sound 0 b e) p.0 ps) t), rising b e p.0 p.1 ps (and_r (ltb r p.0) (rises (end_sound 0 b e) p.0 ps) t))

rising-rows : {K : Type 0} (b : Limit) (e r : ℕ) (ps : List (ℕ × K)) → T (rows (end_sound 0 b e) r ps) → all_pairs (λ (y : K) s c. Under s c) ps (Below e)
unfolding rows
rising-rows b e r [] t = absurd t
rising-rows b e r (p ∷ ps) t = rising b e p.0 p.1 ps (and_r (eqb p.0 r) (rises (end_sound 0 b e) p.0 ps) t)

pub leaf-rises : (C : Shape) (t : Level 1) (r : ℕ) (b : Limit) → T (sound C 0 t r b) → all_pairs (λ (y : ℕ) s c. Under s c) t.pairs (Below t.end)
leaf-rises C t r b s = rising-rows b t.end r t.pairs (soundly C 0 t r b s).rise

-- The laws -----------------------------------------------------------------------------------------------

module _ (C : Shape) (P : ℕ) where
  -- what a node with no Bad shows
  module _ (ends : Bool) (h m : ℕ) (t : Level (suc h)) (r : ℕ) (b : Limit) where
    abbrev Below-clean : Type 0
    Below-clean = all_pairs (λ (x : Level h) s c. T (clean (visits ends C P h t.number x s c))) t.pairs (last h t.end b)

    clean-node : T (clean (visits ends C P (suc h) m t r b)) → T (ltb t.number P) × T (passes ends C h t r b) × Below-clean
    unfolding visits clean
    clean-node = go (ltb t.number P) (passes ends C h t r b)
      where
        vs : List Visit
        vs = over_pairs (visits ends C P h t.number) t.pairs (last h t.end b)

        go : (p s : Bool) → T (clean (pick p (pick s (Enter t.number ∷ (vs ++ (Leave t.number ∷ []))) (Bad t.number ∷ [])) (Bad m ∷ []))) → T p × T s × Below-clean
        go true true c = (tt, tt, clean_all (visits ends C P h t.number) t.pairs (last h t.end b) (and_l (clean vs) true (subst T (clean-append vs (Leave t.number ∷ [])) c)))
        go true false c = absurd c
        go false s c = absurd c

    node-clean : T (ltb t.number P) → T (passes ends C h t r b) → Below-clean → T (clean (visits ends C P (suc h) m t r b))
    unfolding visits clean
    node-clean l s a =
        let vs = over_pairs (visits ends C P h t.number) t.pairs (last h t.end b) in
        rw (is_true (ltb t.number P) l, is_true (passes ends C h t r b) s, clean-append vs (Leave t.number ∷ []))
        (both (clean vs) true (all-clean (visits ends C P h t.number) t.pairs (last h t.end b) a) tt)

  pub reads : (h m : ℕ) (t : Level (suc h)) (r : ℕ) (b : Limit) → T (clean (visits false C P (suc h) m t r b)) → AllSound C P (suc h) t r b
  unfolding AllSound last passes
  reads zero m t r b c =
      let q = clean-node false 0 m t r b c in
      let s = and_l (sound C 0 t r b) true q.1 in
      (q.0, s, leaf-rises C t r b s)
  reads (suc h) m t r b c =
      let q = clean-node false (suc h) m t r b c in
      (q.0, and_l (sound C (suc h) t r b) true q.1, all_map _ (AllSound C P (suc h)) (reads h t.number) t.pairs b q.2)

  pub sound-clean : (h m : ℕ) (t : Level h) (r : ℕ) (b : Limit) → AllSound C P h t r b → T (clean (visits false C P h m t r b))
  unfolding AllSound passes visits clean
  sound-clean zero m t r b g = tt
  sound-clean (suc h) m t r b g =
      node-clean false h m t r b g.0 (both (sound C h t r b) true g.1 tt)
      (all_map (AllSound C P h) _ (sound-clean h t.number) t.pairs (last h t.end b) g.2)

  pub reads-well : (h m : ℕ) (t : Level (suc h)) (r : ℕ) (b : Limit) → T (clean (visits true C P (suc h) m t r b)) → Well C P (suc h) t r b
  unfolding Well last passes
  reads-well zero m t r b c =
      let q = clean-node true 0 m t r b c in
      let s = and_l (sound C 0 t r b) (end_fits 0 b t.end) q.1 in
      (q.0, s, and_r (sound C 0 t r b) (end_fits 0 b t.end) q.1, leaf-rises C t r b s)
  reads-well (suc h) m t r b c =
      let q = clean-node true (suc h) m t r b c in (
        q.0,
        and_l (sound C (suc h) t r b) (end_fits (suc h) b t.end) q.1,
        and_r (sound C (suc h) t r b) (end_fits (suc h) b t.end) q.1,
        all_map _ (Well C P (suc h)) (reads-well h t.number) t.pairs b q.2,
      )

  pub well-clean : (h m : ℕ) (t : Level h) (r : ℕ) (b : Limit) → Well C P h t r b → T (clean (visits true C P h m t r b))
  unfolding Well passes visits clean
  well-clean zero m t r b g = tt
  well-clean (suc h) m t r b g =
      node-clean true h m t r b g.0 (both (sound C h t r b) (end_fits h b t.end) g.1 g.2)
      (all_map (Well C P h) _ (well-clean h t.number) t.pairs (last h t.end b) g.3)

  pub well-sound : (h : ℕ) (t : Level h) (r : ℕ) (b : Limit) → Well C P h t r b → AllSound C P h t r b
  unfolding Well AllSound
  well-sound zero t r b g = g
  well-sound (suc h) t r b g = (g.0, g.1, all_map (Well C P h) (AllSound C P h) (well-sound h) t.pairs (last h t.end b) g.3)

  -- a sound tree has at most C pairs in a node
  pub sound-narrow : (h : ℕ) (t : Level h) (r : ℕ) (b : Limit) → AllSound C P h t r b → Narrow C h t
  unfolding AllSound Narrow
  sound-narrow zero t r b g = tt
  sound-narrow (suc h) t r b g = ((soundly C h t r b g.1).many, all_any (AllSound C P h) (Narrow C h) (sound-narrow h) t.pairs (last h t.end b) Open g.2)

-- The first branch whose end does not fit ----------------------------------------------------------------

-- nodes whose end does not fit, in reading order
unfoldable pub wrong_ends : (h : ℕ) → Level h → ℕ → Limit → List ℕ
wrong_ends zero x r b = []
wrong_ends (suc h) t r b = pick (end_fits h b t.end) [] (t.number ∷ []) ++ over_pairs (wrong_ends h) t.pairs (last h t.end b)

unfoldable pub first_of : List ℕ → Fault
first_of [] = clear
first_of (n ∷ ns) = at n

first-append : (a b : List ℕ) → first_of (a ++ b) ≡ unless_bad (first_of a) at (first_of b)
unfolding first_of
first-append [] b = refl
first-append (x ∷ a) b = refl

bad-append : (a b : List Visit) → first_bad (a ++ b) ≡ unless_bad (first_bad a) at (first_bad b)
unfolding first_bad
bad-append [] b = refl
bad-append (Enter n ∷ a) b = bad-append a b
bad-append (Leave n ∷ a) b = bad-append a b
bad-append (Bad n ∷ a) b = refl

unless-clear : (f : Fault) → unless_bad f at clear ≡ f
unless-clear clear = refl
unless-clear (at n) = refl

first-pairs : {K : Type 0} (f : K → ℕ → Limit → List Visit) (e : K → ℕ → Limit → List ℕ) (Q : K → ℕ → Limit → Type 0)
    → ((x : K) (r : ℕ) (b : Limit) → Q x r b → first_bad (f x r b) ≡ first_of (e x r b))
    → (ps : List (ℕ × K)) (b : Limit) → all_pairs Q ps b → first_bad (over_pairs f ps b) ≡ first_of (over_pairs e ps b)
unfolding over_pairs all_pairs first_of first_bad
first-pairs f e Q g [] b a = refl
first-pairs f e Q g (p ∷ ps) b a =
    rw (bad-append, first-append, g p.1 p.0 (next ps b) a.0, first-pairs f e Q g ps b a.1)

module _ (C : Shape) (P : ℕ) where
  pub first-wrong : (h m : ℕ) (t : Level h) (r : ℕ) (b : Limit) → AllSound C P h t r b → first_bad (visits true C P h m t r b) ≡ first_of (wrong_ends h t r b)
  unfolding AllSound visits passes wrong_ends first_bad first_of
  first-wrong zero m t r b g = refl
  first-wrong (suc h) m t r b g =
      let vs = over_pairs (visits true C P h t.number) t.pairs (last h t.end b) in
      by_test (end_fits h b t.end)
      (λ f. rw (is_true (ltb t.number P) g.0, is_true (sound C h t r b) g.1, f)
      (bad-append vs (Leave t.number ∷ []) ∙ unless-clear (first_bad vs)
      ∙ first-pairs (visits true C P h t.number) (wrong_ends h) (AllSound C P h) (first-wrong h t.number) t.pairs (last h t.end b) g.2))
      (λ f. rw (is_true (ltb t.number P) g.0, is_true (sound C h t r b) g.1, f))
