-- Laws of all_pairs, and of lists joined over pairs.
use Prim.Native.Nat.{ℕ}
use mathlib.Core.List.{List, [], ◌∷◌}
use mathlib.Core.Path.{◌≡◌}
use native.Mathlib.Omega.{arith}
use Rattle.model.specs.Tree.{Limit, next, all_pairs}
use Rattle.model.specs.Reading.{occ, in_pairs}
use Rattle.model.proofs.Frame.{occ-append, occ_nil}

module _ {K : Type 0} (Q R S : K → ℕ → Limit → Type 0) where
  pub all_both : ((x : K) (r : ℕ) (b : Limit) → Q x r b → R x r b → S x r b) → (ps : List (ℕ × K)) (b : Limit) → all_pairs Q ps b → all_pairs R ps b → all_pairs S ps b
  unfolding all_pairs
  all_both f [] b a c = tt
  all_both f (p ∷ ps) b a c = (f p.1 p.0 (next ps b) a.0 c.0, all_both f ps b a.1 c.1)

pub all_map : {K : Type 0} (Q R : K → ℕ → Limit → Type 0) → ((x : K) (r : ℕ) (b : Limit) → Q x r b → R x r b) → (ps : List (ℕ × K)) (b : Limit) → all_pairs Q ps b → all_pairs R ps b
all_map Q R f ps b a = all_both Q Q R (λ x r c g k. f x r c g) ps b a a

-- what does not look at rows and limits
pub all_any : {K : Type 0} (Q : K → ℕ → Limit → Type 0) (R : K → Type 0) → ((x : K) (r : ℕ) (b : Limit) → Q x r b → R x) → (ps : List (ℕ × K)) (b c : Limit) → all_pairs Q ps b → all_pairs (λ x r d. R x) ps c
unfolding all_pairs
all_any Q R f [] b c a = tt
all_any Q R f (p ∷ ps) b c a = (f p.1 p.0 (next ps b) a.0, all_any Q R f ps b c a.1)

-- what stands in no pair
pub none_in : {K : Type 0} (m : ℕ) (Q : K → ℕ → Limit → Type 0) (ns : K → List ℕ) → ((x : K) (r : ℕ) (b : Limit) → Q x r b → occ m (ns x) ≡ 0)
    → (ps : List (ℕ × K)) (b : Limit) → all_pairs Q ps b → occ m (in_pairs ns ps) ≡ 0
unfolding all_pairs in_pairs
none_in m Q ns z [] b a = occ_nil m
none_in m Q ns z (p ∷ ps) b a = omega (arith, occ-append m (ns p.1) (in_pairs ns ps), z p.1 p.0 (next ps b) a.0, none_in m Q ns z ps b a.1)
