-- The entries of the cut tree are the entries from the cut on.
use Prim.Native.Nat.{ℕ, zero, suc, ◌<◌, ◌≤◌}
use mathlib.Core.List.{List, [], ◌∷◌, ◌++◌}
use mathlib.Core.Path.{◌≡◌, refl, ap}
use native.Mathlib.Omega.{arith}
use lib.ListN.{length}
use lib.Dec.{ltb}
use borrow.Author.Tests.{le-ltb, ltb-false}
use Rattle.model.specs.Words.{Shape}
use Rattle.model.specs.Tree.{Limit, Level, next, last, over_pairs, all_pairs, AllSound}
use Rattle.model.specs.Reading.{Entry, entries}
use Rattle.model.specs.Cut.{Rest, gone, stays, keep, cut_pairs, trim, cut}
use Rattle.model.proofs.Tests.{by_test}
use Rattle.model.proofs.Sound.{Begins, begins, sound-begins}
use Rattle.law_prune.specs.Cutting.{drop_to}
use Rattle.law_prune.proofs.Rests.{up_to}

-- entries that begin at row r
pub data Starts (r : ℕ) : List Entry → Type 0 where
  starts : (a : Entry) (es : List Entry) → a.low ≡ r → Starts r (a ∷ es)

pub starts-append : (r : ℕ) (a b : List Entry) → Starts r a → Starts r (a ++ b)
starts-append r _ b (starts a es p) = starts a (es ++ b) p

pairs_start : {K : Type 0} (f : K → ℕ → Limit → List Entry) (Q : K → ℕ → Limit → Type 0) → ((x : K) (r : ℕ) (b : Limit) → Q x r b → Starts r (f x r b))
    → (r : ℕ) (ps : List (ℕ × K)) (b : Limit) → Begins r ps → all_pairs Q ps b → Starts r (over_pairs f ps b)
unfolding over_pairs all_pairs
pairs_start f Q p r _ b (begins x ps) g = starts-append r (f x r (next ps b)) (over_pairs f ps b) (p x r (next ps b) g.0)

pub sound-starts : (C : Shape) (P h : ℕ) (t : Level h) (r : ℕ) (b : Limit) → AllSound C P h t r b → Starts r (entries h t r b)
unfolding entries AllSound
sound-starts C P zero x r b g = starts (record { low = r; high = b; page = x }) [] refl
sound-starts C P (suc h) t r b g = pairs_start (entries h) (AllSound C P h) (sound-starts C P h) r t.pairs (last h t.end b) (sound-begins C h t r b g.1) g.2

-- a list with at least one element
pub data Some {A : Type 0} : List A → Type 0 where
  some : (a : A) (l : List A) → Some (a ∷ l)

some-length : {A : Type 0} (l : List A) → Some l → 0 < length l
some-length _ (some a l) = omega arith

pub starts-some : (r : ℕ) (es : List Entry) → Starts r es → Some es
starts-some r _ (starts a es p) = some a es

pub drop-none : (e r : ℕ) (es : List Entry) → Starts r es → e ≤ r → drop_to e es ≡ es
unfolding drop_to
drop-none e r _ (starts a es p) l = rw (p, le-ltb r e l)

pub drop-gone : (e : ℕ) (a b : List Entry) → drop_to e a ≡ [] → drop_to e (a ++ b) ≡ drop_to e b
unfolding drop_to
drop-gone e [] b = λ p. refl
drop-gone e (x ∷ a) b =
    by_test (ltb x.low e)
    (λ u. rw u (λ p. drop-gone e a b p))
    (λ u. rw u (λ p. let z : ◌≡◌ {A = ℕ} 0 1 = cc in absurd (omega arith)))

pub drop-some : (e : ℕ) (a b : List Entry) → Some (drop_to e a) → drop_to e (a ++ b) ≡ drop_to e a ++ b
unfolding drop_to
drop-some e [] b = λ p. absurd (omega (arith, some-length [] p))
drop-some e (x ∷ a) b =
    by_test (ltb x.low e)
    (λ u. rw u (λ p. drop-some e a b p))
    (λ u. rw u (λ p. refl))

-- both empty, or neither
pub data Both {A B : Type 0} : List A → List B → Type 0 where
  neither : Both [] []
  both : (a : A) (l : List A) (b : B) (m : List B) → Both (a ∷ l) (b ∷ m)

-- what is left of a pair of row r has the entries es
unfoldable pub CutTo : {K : Type 0} → (K → ℕ → Limit → List Entry) → ℕ → Rest K → ℕ → Limit → List Entry → Type 0
CutTo f e gone r b es = es ≡ []
CutTo f e (stays x) r b es = (f x (up_to e r) b ≡ es) × Some es

unfoldable pub Kept : {K : Type 0} → (K → ℕ → Limit → List Entry) → List (ℕ × K) → Limit → List Entry → Type 0
Kept f ps b es = (over_pairs f ps b ≡ es) × Both ps es

both_some : {A : Type 0} (a : A) (l : List A) (es fs : List Entry) → Some es → Both (a ∷ l) (es ++ fs)
both_some a l _ fs (some b m) = both a l b (m ++ fs)

module _ {K : Type 0} (e : ℕ) (f : K → ℕ → Rest K) (en : K → ℕ → Limit → List Entry) where
  child_case : (c : Rest K) (r : ℕ) (ps : List (ℕ × K)) (b : Limit) (a : List Entry) → CutTo en e c r (next ps b) (drop_to e a)
      → Kept en (cut_pairs e f ps) b (drop_to e (over_pairs en ps b))
      → Kept en (keep e r c ps (cut_pairs e f ps)) b (drop_to e (a ++ over_pairs en ps b))
  unfolding CutTo Kept keep over_pairs
  child_case gone r ps b a p q = rw (drop-gone e a (over_pairs en ps b) p) q
  child_case (stays x) r ps b a p q =
      rw (drop-some e a (over_pairs en ps b) p.1) (ap (λ (l : List Entry). l ++ over_pairs en ps b) p.0, both_some (up_to e r, x) ps (drop_to e a) (over_pairs en ps b) p.1)

  pub pairs-kept : (Q : K → ℕ → Limit → Type 0) → ((x : K) (r : ℕ) (b : Limit) → Q x r b → CutTo en e (f x r) r b (drop_to e (en x r b)))
      → (ps : List (ℕ × K)) (b : Limit) → all_pairs Q ps b → Kept en (cut_pairs e f ps) b (drop_to e (over_pairs en ps b))
  unfolding all_pairs over_pairs cut_pairs drop_to Kept
  pairs-kept Q p [] b g = (refl, neither)
  pairs-kept Q p (k ∷ ps) b g = child_case (f k.1 k.0) k.0 ps b (en k.1 k.0 (next ps b)) (p k.1 k.0 (next ps b) g.0) (pairs-kept Q p ps b g.1)

trim_case : (h e : ℕ) (t : Level (suc h)) (r : ℕ) (b : Limit) (ps : List (ℕ × Level h)) (es : List Entry) → Both ps es → over_pairs (entries h) ps (last h t.end b) ≡ es
    → CutTo (entries (suc h)) e (trim e t ps) r b es
unfolding CutTo trim entries
trim_case h e t r b _ _ neither p = refl
trim_case h e t r b _ _ (both k l a m) p = (p, some a m)

-- the law
pub rest-entries : (C : Shape) (P h e : ℕ) (t : Level h) (r : ℕ) (b : Limit) → AllSound C P h t r b → CutTo (entries h) e (cut h e t r) r b (drop_to e (entries h t r b))
unfolding cut entries CutTo AllSound Kept drop_to
rest-entries C P zero e x r b g = by_test (ltb r e) (λ u. rw u refl) (λ u. rw (u, CutTo, u) (refl, some (record { low = r; high = b; page = x }) []))
rest-entries C P (suc h) e t r b g =
    let q = pairs-kept e (cut h e) (entries h) (AllSound C P h) (rest-entries C P h e) t.pairs (last h t.end b) g.2 in
    let s = sound-starts C P (suc h) t r b g in
    by_test (ltb r e)
    (λ u. rw u (trim_case h e t r b (cut_pairs e (cut h e) t.pairs) (drop_to e (over_pairs (entries h) t.pairs (last h t.end b))) q.1 q.0))
    (λ u. let d = drop-none e r (entries (suc h) t r b) s (ltb-false r e u) in
    rw (u, d) (refl, starts-some r (entries (suc h) t r b) s))
