-- Copying the only child into the root keeps entries and well-formedness, and takes the copied nodes out.
use Prim.Native.Nat.{ℕ, zero, suc, ◌+◌, ◌<◌}
use mathlib.Core.List.{List, [], ◌∷◌, ◌++◌, reverse, reverse-cons, append-nil, append_assoc}
use mathlib.Core.Path.{◌≡◌, refl, sym, ap, ◌∙◌}
use native.Mathlib.Omega.{arith}
use lib.ListN.{length}
use Rattle.model.specs.Words.{Shape}
use Rattle.model.specs.Tree.{Limit, Level, next, last, sound, over_pairs, all_pairs}
use Rattle.model.specs.Reading.{entries, in_pairs, nodes}
use Rattle.model.proofs.Sound.{Begins, begins, sound-begins}
use Rattle.law_formed.specs.Well.{Well}
use Rattle.law_prune.specs.Cutting.{Tree, tree_entries, below_root, named, only_or, collapse, copied_nodes}
use Rattle.law_prune.proofs.Rests.{T-lt}

only-entries : (h n : ℕ) (t : Tree) (ps : List (ℕ × Level (suc h))) (s : ℕ) (b : Limit) → tree_entries t s b ≡ over_pairs (entries (suc h)) ps b
    → ((x : Level (suc h)) (r : ℕ) → tree_entries (collapse n h x) s b ≡ entries (suc h) x r b) → tree_entries (only_or (collapse n h) t ps) s b ≡ over_pairs (entries (suc h)) ps b
unfolding only_or over_pairs next
only-entries h n t [] s b p q = p
only-entries h n t (k ∷ []) s b p q = q k.1 k.0 ∙ sym (append-nil (entries (suc h) k.1 k.0 b))
only-entries h n t (k ∷ k₂ ∷ ps) s b p q = p

pub collapse-entries : (n h : ℕ) (t : Level (suc h)) (s r : ℕ) (b : Limit) → tree_entries (collapse n h t) s b ≡ entries (suc h) t r b
unfolding collapse entries last
collapse-entries n zero t s r b = refl
collapse-entries n (suc h) t s r b = only-entries h n (suc h, named n t) t.pairs s b refl (λ x r₂. collapse-entries n h x s r₂ b)

only-nodes : (h n : ℕ) (t : Tree) (ps : List (ℕ × Level (suc h))) → below_root t ≡ in_pairs (nodes (suc h)) ps
    → ((x : Level (suc h)) → nodes (suc h) x ≡ below_root (collapse n h x) ++ (reverse (copied_nodes h x) ++ (x.number ∷ [])))
    → in_pairs (nodes (suc h)) ps ≡ below_root (only_or (collapse n h) t ps) ++ reverse (only_or (λ (x : Level (suc h)). x.number ∷ copied_nodes h x) [] ps)
unfolding only_or in_pairs
only-nodes h n t [] p q = sym (append-nil (below_root t) ∙ p)
only-nodes h n t (k ∷ []) p q =
    append-nil (nodes (suc h) k.1) ∙ q k.1 ∙ ap (λ (l : List ℕ). below_root (collapse n h k.1) ++ l) (sym (reverse-cons k.1.number (copied_nodes h k.1)))
only-nodes h n t (k ∷ k₂ ∷ ps) p q = sym (append-nil (below_root t) ∙ p)

-- the nodes copied stand just before the root
pub collapse-nodes : (n h : ℕ) (t : Level (suc h)) → nodes (suc h) t ≡ below_root (collapse n h t) ++ (reverse (copied_nodes h t) ++ (t.number ∷ []))
unfolding collapse nodes copied_nodes
collapse-nodes n zero t = refl
collapse-nodes n (suc h) t =
    rw (only-nodes h n (suc h, named n t) t.pairs refl (collapse-nodes n h))
    (append_assoc (below_root (only_or (collapse n h) (suc h, named n t) t.pairs)) (reverse (only_or (λ (x : Level (suc h)). x.number ∷ copied_nodes h x) [] t.pairs)) (t.number ∷ []))

only-number : (h n : ℕ) (t : Tree) (ps : List (ℕ × Level (suc h))) → t.1.number ≡ n → ((x : Level (suc h)) → (collapse n h x).1.number ≡ n) → (only_or (collapse n h) t ps).1.number ≡ n
unfolding only_or
only-number h n t [] p q = p
only-number h n t (k ∷ []) p q = q k.1
only-number h n t (k ∷ k₂ ∷ ps) p q = p

pub collapse-number : (n h : ℕ) (t : Level (suc h)) → (collapse n h t).1.number ≡ n
unfolding collapse
collapse-number n zero t = refl
collapse-number n (suc h) t = only-number h n (suc h, named n t) t.pairs refl (collapse-number n h)

only-levels : (h n : ℕ) (t : Tree) (ps : List (ℕ × Level (suc h))) → t.0 ≡ suc h → ((x : Level (suc h)) → (collapse n h x).0 + length (copied_nodes h x) ≡ h)
    → (only_or (collapse n h) t ps).0 + length (only_or (λ (x : Level (suc h)). x.number ∷ copied_nodes h x) [] ps) ≡ suc h
unfolding only_or
only-levels h n t [] p q = omega arith
only-levels h n t (k ∷ []) p q = omega (arith, q k.1)
only-levels h n t (k ∷ k₂ ∷ ps) p q = omega arith

-- a level for each node copied
pub collapse-levels : (n h : ℕ) (t : Level (suc h)) → (collapse n h t).0 + length (copied_nodes h t) ≡ h
unfolding collapse copied_nodes
collapse-levels n zero t = refl
collapse-levels n (suc h) t = only-levels h n (suc h, named n t) t.pairs refl (collapse-levels n h)

module _ (C : Shape) (P n : ℕ) (inside : n < P) where
  abbrev pub WellTree : Tree → ℕ → Limit → Type 0
  WellTree t r b = Well C P (suc t.0) t.1 r b

  only-well : (h : ℕ) (t : Tree) (ps : List (ℕ × Level (suc h))) (r : ℕ) (b : Limit) → WellTree t r b → Begins r ps → all_pairs (Well C P (suc h)) ps b
      → ((x : Level (suc h)) → Well C P (suc h) x r b → WellTree (collapse n h x) r b) → WellTree (only_or (collapse n h) t ps) r b
  unfolding only_or all_pairs next
  only-well h t _ r b p (begins x []) a q = q x a.0
  only-well h t _ r b p (begins x (k ∷ ps)) a q = p

  named-well : (h : ℕ) (t : Level (suc h)) (r : ℕ) (b : Limit) → Well C P (suc h) t r b → Well C P (suc h) (named n t) r b
  unfolding Well sound
  named-well h t r b g = (T-lt n P inside, g.1, g.2, g.3)

  pub collapse-well : (h : ℕ) (t : Level (suc h)) (r : ℕ) (b : Limit) → Well C P (suc h) t r b → WellTree (collapse n h t) r b
  unfolding collapse Well last
  collapse-well zero t r b g = named-well 0 t r b g
  collapse-well (suc h) t r b g = only-well h (suc h, named n t) t.pairs r b (named-well (suc h) t r b g) (sound-begins C (suc h) t r b g.1) g.3 (λ x q. collapse-well h x r b q)
