-- The nodes that went, then those that stay, are the nodes: the former are a prefix of the postorder, on any tree.
use Prim.Native.Nat.{ℕ, zero, suc}
use mathlib.Core.List.{List, [], ◌∷◌, ◌++◌, append-nil, append_assoc}
use mathlib.Core.Path.{◌≡◌, refl, sym}
use lib.Dec.{ltb}
use Rattle.model.specs.Tree.{Level}
use Rattle.model.specs.Reading.{in_pairs, nodes}
use Rattle.model.specs.Cut.{Rest, gone, stays, if_gone, keep, cut_pairs, trim, cut, went_pairs, went}
use Rattle.model.proofs.Tests.{by_test}

-- the nodes of what is left, for any kind of child
unfoldable pub of_rest : {K : Type 0} → (K → List ℕ) → Rest K → List ℕ
of_rest ns gone = []
of_rest ns (stays x) = ns x

module _ {K : Type 0} (e : ℕ) (f : K → ℕ → Rest K) (g : K → ℕ → List ℕ) (ns : K → List ℕ) where
  one-child : (c : Rest K) (r : ℕ) (ps : List (ℕ × K)) (a b l : List ℕ) → a ≡ b ++ of_rest ns c → in_pairs ns ps ≡ l ++ in_pairs ns (cut_pairs e f ps)
      → a ++ in_pairs ns ps ≡ (b ++ if_gone c l []) ++ in_pairs ns (keep e r c ps (cut_pairs e f ps))
  unfolding of_rest if_gone keep in_pairs
  one-child gone r ps a b l p q = rw (p, q, append-nil) (sym (append_assoc b l (in_pairs ns (cut_pairs e f ps))))
  one-child (stays x) r ps a b l p q = rw (p, append-nil) (append_assoc b (ns x) (in_pairs ns ps))

  pub pairs-went : ((x : K) (r : ℕ) → ns x ≡ g x r ++ of_rest ns (f x r)) → (ps : List (ℕ × K)) → in_pairs ns ps ≡ went_pairs f g ps ++ in_pairs ns (cut_pairs e f ps)
  unfolding in_pairs went_pairs cut_pairs
  pairs-went p [] = refl
  pairs-went p (k ∷ ps) = one-child (f k.1 k.0) k.0 ps (ns k.1) (g k.1 k.0) (went_pairs f g ps) (p k.1 k.0) (pairs-went p ps)

trim-went : (h e : ℕ) (t : Level (suc h)) (ps : List (ℕ × Level h)) (a b : List ℕ) → a ≡ b ++ in_pairs (nodes h) ps
    → a ++ (t.number ∷ []) ≡ (b ++ if_gone (trim e t ps) (t.number ∷ []) []) ++ of_rest (nodes (suc h)) (trim e t ps)
unfolding trim if_gone of_rest nodes in_pairs
trim-went h e t [] a b p = rw (p, append-nil) (sym (append-nil (b ++ (t.number ∷ []))))
trim-went h e t (k ∷ ps) a b p = rw (p, append-nil) (append_assoc b _ (t.number ∷ []))

-- the law
pub rest-nodes : (h e : ℕ) (t : Level h) (r : ℕ) → nodes h t ≡ went h e t r ++ of_rest (nodes h) (cut h e t r)
unfolding nodes went cut of_rest
rest-nodes zero e x r = by_test (ltb r e) (λ u. rw u) (λ u. rw u)
rest-nodes (suc h) e t r =
    by_test (ltb r e)
    (λ u. rw u (trim-went h e t (cut_pairs e (cut h e) t.pairs) (in_pairs (nodes h) t.pairs) (went_pairs (cut h e) (went h e) t.pairs) (pairs-went e (cut h e) (went h e) (nodes h) (rest-nodes h e) t.pairs)))
    (λ u. rw u)
