-- A root over its copy and a new path, on trees.
use Prim.Native.Nat.{ℕ, zero, suc, ◌+◌, ◌<◌, ◌≤◌}
use mathlib.Core.List.{List, [], ◌∷◌, ◌++◌, append-nil}
use mathlib.Core.Bool.{true, ◌&&◌}
use mathlib.Core.Path.{◌≡◌, refl, sym, ap, ◌∙◌, subst}
use native.Mathlib.Omega.{arith}
use lib.Dec.{T, leb, ltb, eqb, lt→ltb, le→leb, eqb_refl}
use Rattle.model.specs.Words.{Shape, NONE, row_limit}
use Rattle.model.specs.Tree.{Limit, Open, Below, Level, next, last, over_pairs, all_pairs, meets, end_sound, Under}
use Rattle.model.specs.Reading.{Entry, entries, occ, in_pairs, nodes, end_fits}
use Rattle.model.proofs.Tests.{both}
use Rattle.model.proofs.Sound.{rises, rows, soundly, sound_of}
use Rattle.model.proofs.Frame.{occ-append, occ_nil}
use Rattle.law_formed.specs.Well.{Well}
use Rattle.law_append.specs.Grown.{renamed, parted}
use Rattle.law_append.proofs.Right.{Tip}
use Rattle.law_append.proofs.Lists.{or_r, rows_to}
use Rattle.law_append.proofs.Hung.{well-below, sealed, tip-entries}

last-below : (s h : ℕ) → last h s (Below s) ≡ Below s
unfolding last
last-below s zero = refl
last-below s (suc h) = refl

module _ (C : Shape) (P s : ℕ) (most : s ≤ row_limit) where
  end_below : (h l : ℕ) → l < s → T (end_sound h (Below s) s l)
  unfolding end_sound meets
  end_below zero l u = both (ltb l s && leb s row_limit) (eqb s s) (both (ltb l s) (leb s row_limit) (lt→ltb l s u) (le→leb s row_limit most)) (eqb_refl s)
  end_below (suc h) l u = or_r (eqb s NONE) (ltb l s) (lt→ltb l s u)

  fits_below : (h : ℕ) → T (end_fits h (Below s) s)
  unfolding end_fits
  fits_below zero = tt
  fits_below (suc h) = or_r (eqb s NONE) (eqb s s) (eqb_refl s)

  renamed-well : (h : ℕ) (t : Level (suc h)) (r c : ℕ) → c < P → Well C P (suc h) t r Open → Tip h t s → Well C P (suc h) (renamed h t c s) r (Below s)
  unfolding Well renamed
  renamed-well h t r c i g tip =
      let o = soundly C h t r Open g.1 in
      let a = sealed C P s h t r g tip in (
        lt→ltb c P i,
        sound_of C h (renamed h t c s) r (Below s) (record {
          high = o.high;
          many = o.many;
          begin = o.begin;
          rise = rows_to (Well C P h) (well-below C P h) (end_sound h Open t.end) (end_sound h (Below s) s) s (λ l u z. end_below h l u) r t.pairs a o.rise;
        }),
        fits_below h,
        rw (last-below s h) a,
      )

  -- the law
  pub parted-well : (h : ℕ) (t : Level (suc h)) (r c : ℕ) (y : Level (suc h)) → 2 ≤ C.cap → c < P → Well C P (suc h) t r Open → Tip h t s → Well C P (suc h) y s Open
      → Well C P (suc (suc h)) (parted h t c s y) r Open
  unfolding Well parted end_fits all_pairs last next rows rises end_sound Under
  parted-well h t r c y two i g tip q =
      let o = soundly C h t r Open g.1 in
      let k = renamed-well h t r c i g tip in
      let l : r < s = well-below C P (suc h) (renamed h t c s) r (Below s) k in (
        g.0,
        sound_of C (suc h) (parted h t c s y) r Open (record {
          high = refl;
          many = two;
          begin = o.begin;
          rise = both (eqb t.start r) (ltb t.start s && true) (subst (λ (x : ℕ). T (eqb t.start x)) o.begin (eqb_refl t.start)) (both (ltb t.start s) true (lt→ltb t.start s (omega (arith, o.begin))) tt);
        }),
        tt,
        (subst (λ (x : ℕ). Well C P (suc h) (renamed h t c s) x (Below s)) (sym o.begin) k, (q, tt)),
      )

pub parted-entries : (h : ℕ) (t : Level (suc h)) (r s c : ℕ) (y : Level (suc h)) → Tip h t s
    → entries (suc (suc h)) (parted h t c s y) r Open ≡ entries (suc h) t r Open ++ entries (suc h) y s Open
unfolding parted entries over_pairs last next renamed
parted-entries h t r s c y tip =
    ap (λ (l : List Entry). over_pairs (entries h) t.pairs (last h s (Below s)) ++ l) (append-nil (entries (suc h) y s Open))
    ∙ ap (λ (b : Limit). over_pairs (entries h) t.pairs b ++ entries (suc h) y s Open) (last-below s h)
    ∙ ap (λ (l : List Entry). l ++ entries (suc h) y s Open) (tip-entries h t s r tip)

pub parted-nodes : (m h : ℕ) (t : Level (suc h)) (s c : ℕ) (y : Level (suc h))
    → occ m (nodes (suc (suc h)) (parted h t c s y)) ≡ occ m (nodes (suc h) t) + occ m (c ∷ []) + occ m (nodes (suc h) y)
unfolding parted nodes renamed in_pairs
parted-nodes m h t s c y =
    let a = in_pairs (nodes h) t.pairs in
    let b = nodes (suc h) y in
    omega (arith, occ-append m ((a ++ (c ∷ [])) ++ (b ++ [])) (t.number ∷ []), occ-append m (a ++ (c ∷ [])) (b ++ []), occ-append m a (c ∷ []), occ-append m b [], occ_nil m, occ-append m a (t.number ∷ []))
