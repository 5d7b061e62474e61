-- What is left of a subtree: small laws.
use Prim.Native.Nat.{ℕ, suc, ◌<◌, ◌≤◌}
use mathlib.Core.List.{List, [], ◌∷◌}
use mathlib.Core.Path.{◌≡◌, refl, sym, ap}
use native.Mathlib.Omega.{arith}
use lib.ListN.{length}
use lib.Dec.{T, ltb, eqb}
use borrow.Author.Tests.{lt-ltb, eq-eqb}
use Rattle.model.specs.Words.{pick}
use Rattle.model.specs.Tree.{Node, Level}
use Rattle.model.specs.Cut.{Rest, gone, stays, keep, cut_pairs, trim, cut}
use Rattle.model.proofs.Tests.{by_test}

-- the row of a pair that stays
abbrev pub up_to : ℕ → ℕ → ℕ
up_to e r = pick (ltb r e) e r

-- node t with the pairs ps, starting at e
abbrev pub with_pairs : {K : Type 0} → ℕ → Node K → List (ℕ × K) → Node K
with_pairs e t ps = record { number = t.number; height = t.height; start = e; end = t.end; pairs = ps }

pub by_rest : {K A : Type 0} (c : Rest K) → (c ≡ gone → A) → ((y : K) → c ≡ stays y → A) → A
by_rest gone f g = f refl
by_rest (stays y) f g = g y refl

pub gone-not : {K A : Type 0} (y : K) → gone ≡ stays y → A
gone-not y p = let z : ◌≡◌ {A = ℕ} 0 1 = cc in absurd (omega arith)

pub stays-is : {K : Type 0} (x y : K) → stays x ≡ stays y → x ≡ y
stays-is x y p = cc

pub trim-is : {K : Type 0} (e : ℕ) (t y : Node K) (ps : List (ℕ × K)) → trim e t ps ≡ stays y → with_pairs e t ps ≡ y
unfolding trim
trim-is e t y [] p = gone-not y p
trim-is e t y (k ∷ ps) p = stays-is (with_pairs e t (k ∷ ps)) y p

-- what is left of a node has its number
pub cut-number : (h e : ℕ) (t y : Level (suc h)) (r : ℕ) → cut (suc h) e t r ≡ stays y → y.number ≡ t.number
unfolding cut
cut-number h e t y r =
    by_test (ltb r e)
    (λ u. rw u (λ p. ap (λ (v : Level (suc h)). v.number) (sym (trim-is e t y (cut_pairs e (cut h e) t.pairs) p))))
    (λ u. rw u (λ p. ap (λ (v : Level (suc h)). v.number) (sym (stays-is t y p))))

keep-length : {K : Type 0} (e r : ℕ) (c : Rest K) (ps more : List (ℕ × K)) → length more ≤ length ps → length (keep e r c ps more) ≤ suc (length ps)
unfolding keep
keep-length e r gone ps more l = omega arith
keep-length e r (stays x) ps more l = omega arith

pub cut-length : {K : Type 0} (e : ℕ) (f : K → ℕ → Rest K) (ps : List (ℕ × K)) → length (cut_pairs e f ps) ≤ length ps
unfolding cut_pairs
cut-length e f [] = omega arith
cut-length e f (k ∷ ps) = keep-length e k.0 (f k.1 k.0) ps (cut_pairs e f ps) (cut-length e f ps)

-- Tests of numbers
pub T-lt : (a b : ℕ) → a < b → T (ltb a b)
T-lt a b l = rw (lt-ltb a b l) tt

pub T-eq : (a b : ℕ) → a ≡ b → T (eqb a b)
T-eq a b l = rw (eq-eqb a b l) tt
