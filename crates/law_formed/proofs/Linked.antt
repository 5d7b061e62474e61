-- The entries of a sound tree are linked: each begins where the one before it ends.
use Prim.Native.Nat.{ℕ, zero, suc, ◌<◌, ◌≤◌}
use mathlib.Core.List.{List, [], ◌∷◌, ◌++◌, append-nil}
use mathlib.Core.Path.{◌≡◌, subst}
use lib.Dec.{T, leb, ltb, leb→le}
use Rattle.model.specs.Words.{Shape, row_limit}
use Rattle.model.specs.Tree.{Limit, Open, Below, end_sound, Level, next, last, over_pairs, all_pairs, Under, AllSound}
use Rattle.model.specs.Reading.{Entry, entries}
use Rattle.model.proofs.Tests.{and_l, and_r}
use Rattle.model.proofs.Sound.{Begins, begins, sound-begins, sound-ends, meets-is}

-- linked entries from row r to row z
pub data Run : ℕ → List Entry → ℕ → Type 0 where
  none : (r : ℕ) → Run r [] r
  more : (r x z page : ℕ) (es : List Entry) → r < x → Run x es z → Run r (record { low = r; high = Below x; page = page } ∷ es) z

pub run_join : (r x z : ℕ) (a b : List Entry) → Run r a x → Run x b z → Run r (a ++ b) z
run_join _ _ z _ b (none r) t = t
run_join _ _ z _ b (more r x y page es l s) t = more r x z page (es ++ b) l (run_join x y z es b s t)

-- they end at what is next
unfoldable pub Meets : Limit → ℕ → Type 0
Meets Open z = Unit {0}
Meets (Below x) z = z ≡ x

pub record Linked (r : ℕ) (es : List Entry) (b : Limit) : Type 0 where
  pub end : ℕ
  pub run : Run r es end
  pub meets : Meets b end
  pub low : end ≤ row_limit

-- In a leaf ----------------------------------------------------------------------------------------------

leaf-run : (e : ℕ) (p : ℕ × ℕ) (ps : List (ℕ × ℕ)) (C : Shape) (P : ℕ) → all_pairs (AllSound C P 0) (p ∷ ps) (Below e) → Run p.0 (over_pairs (entries 0) (p ∷ ps) (Below e)) e
unfolding all_pairs AllSound Under over_pairs entries next
leaf-run e p [] C P a = more p.0 e e p.1 [] a.0 (none e)
leaf-run e p (q ∷ ps) C P a = more p.0 q.0 e p.1 _ a.0 (leaf-run e q ps C P a.1)

leaf-begins : (e r : ℕ) (ps : List (ℕ × ℕ)) (C : Shape) (P : ℕ) → Begins r ps → all_pairs (AllSound C P 0) ps (Below e) → Run r (over_pairs (entries 0) ps (Below e)) e
leaf-begins e r _ C P (begins x ps) a = leaf-run e (r, x) ps C P a

ends_at : (b : Limit) (e l : ℕ) → T (end_sound 0 b e l) → Meets b e
unfolding end_sound Meets
ends_at Open e l t = tt
ends_at (Below x) e l t = meets-is (ltb l e) (leb e row_limit) e x t

ends_low : (b : Limit) (e l : ℕ) → T (end_sound 0 b e l) → e ≤ row_limit
unfolding end_sound
ends_low b e l t = leb→le e row_limit (search (and_l, and_r))

-- Over pairs ---------------------------------------------------------------------------------------------

module _ {K : Type 0} (f : K → ℕ → Limit → List Entry) (Q : K → ℕ → Limit → Type 0) (law : (x : K) (r : ℕ) (b : Limit) → Q x r b → Linked r (f x r b) b) where
  pairs-linked : (p : ℕ × K) (ps : List (ℕ × K)) (b : Limit) → all_pairs Q (p ∷ ps) b → Linked p.0 (over_pairs f (p ∷ ps) b) b
  unfolding all_pairs over_pairs next Meets
  pairs-linked p [] b a = rw append-nil (law p.1 p.0 b a.0)
  pairs-linked p (q ∷ ps) b a =
      let one = law p.1 p.0 (Below q.0) a.0 in
      let two = pairs-linked q ps b a.1 in
      record {
        end = two.end;
        run = run_join p.0 q.0 two.end (f p.1 p.0 (Below q.0)) (over_pairs f (q ∷ ps) b) (subst (λ (z : ℕ). Run p.0 (f p.1 p.0 (Below q.0)) z) one.meets one.run) two.run;
        meets = two.meets;
        low = two.low;
      }

  begins-linked : (r : ℕ) (ps : List (ℕ × K)) (b : Limit) → Begins r ps → all_pairs Q ps b → Linked r (over_pairs f ps b) b
  begins-linked r _ b (begins x ps) a = pairs-linked (r, x) ps b a

-- the law
pub sound-linked : (C : Shape) (P h : ℕ) (t : Level (suc h)) (r : ℕ) (b : Limit) → AllSound C P (suc h) t r b → Linked r (entries (suc h) t r b) b
unfolding entries AllSound last
sound-linked C P zero t r b g =
    let s = sound-ends C 0 t r b g.1 in
    record {
      end = t.end;
      run = leaf-begins t.end r t.pairs C P (sound-begins C 0 t r b g.1) g.2;
      meets = ends_at b t.end s.0 s.1;
      low = ends_low b t.end s.0 s.1;
    }
sound-linked C P (suc h) t r b g =
    begins-linked (entries (suc h)) (AllSound C P (suc h)) (sound-linked C P h) r t.pairs b (sound-begins C (suc h) t r b g.1) g.2
