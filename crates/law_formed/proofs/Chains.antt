-- A chain that ends with P repeats no node, because the chain from a node is determined by the node.
use Prim.Native.Nat.{ℕ, zero, suc, ◌<◌, ◌≤◌}
use mathlib.Core.List.{List, [], ◌∷◌}
use mathlib.Core.Bool.{true, ◌&&◌}
use mathlib.Core.Path.{◌≡◌, refl, sym, ap, ap₂, ◌∙◌, subst}
use native.Mathlib.Omega.{arith}
use lib.ListN.{length}
use lib.Dec.{T, ltb, eqb, ltb→lt, eqb→eq}
use borrow.Author.Tests.{eqb-true, eqb-false, ltb-true, ltb-false, lt-ltb, eq-eqb}
use Rattle.model.specs.Words.{Shape, height, count, free_mark}
use Rattle.model.specs.Reading.{occ}
use Rattle.model.specs.Append.{firsts}
use Rattle.model.specs.WellFormed.{Chain}
use Rattle.model.specs.FullCheck.{chain_ends}
use Rattle.model.proofs.Tests.{and_l, and_r, by_test}
use Rattle.model.proofs.Frame.{occ_self, occ_nil}
use Rattle.model.proofs.Once.{occ-other}
use Rattle.model.proofs.Writes.{occ_cons}

module _ (C : Shape) (P : ℕ) (w : List ℕ) where
  pub chain-one : (n : ℕ) (ns ms : List ℕ) → Chain C P w n ns → Chain C P w n ms → ns ≡ ms
  unfolding Chain
  chain-one n [] [] c d = refl
  chain-one n [] (m ∷ ms) c d = absurd (omega arith)
  chain-one n (m ∷ ms) [] c d = absurd (omega arith)
  chain-one n (m ∷ ms) (k ∷ ks) c d =
      let e : k ≡ m = sym d.0 ∙ c.0 in
      ap₂ (λ (x : ℕ) (xs : List ℕ). x ∷ xs) (sym e) (chain-one (count C w m) ms ks c.3 (subst (λ (x : ℕ). Chain C P w (count C w x) ks) e d.3))

  -- the chain from a node of a chain
  pub from_in : (m n : ℕ) (ns : List ℕ) → Chain C P w n ns → 0 < occ m ns → (ms : List ℕ) × Chain C P w m (m ∷ ms) × (length ms < length ns)
  unfolding Chain
  from_in m n [] c p = absurd (omega (arith, occ_nil m))
  from_in m n (x ∷ ns) c p =
      by_test (eqb m x)
      (λ t. let e = eqb-true m x t in (ns, subst (λ (y : ℕ). Chain C P w y (y ∷ ns)) (sym e) (refl, c.1, c.2, c.3), omega arith))
      (λ t. let z = from_in m (count C w x) ns c.3 (omega (arith, occ_cons m x ns, occ-other m x (eqb-false m x t))) in (z.0, z.1, omega (arith, z.2)))

  pub chain-once : (m n : ℕ) (ns : List ℕ) → Chain C P w n ns → occ m ns ≤ 1
  unfolding Chain
  chain-once m n [] c = omega (arith, occ_nil m)
  chain-once m n (x ∷ ns) c =
      by_test (eqb m x)
      (λ t. let e = eqb-true m x t in
      by_test (ltb 0 (occ m ns))
      (λ u. let z = from_in m (count C w x) ns c.3 (ltb-true 0 (occ m ns) u) in
      absurd (omega (arith, z.2, ap length (chain-one m (m ∷ z.0) (x ∷ ns) z.1 (e, c.1, c.2, c.3)))))
      (λ u. omega (arith, ltb-false 0 (occ m ns) u, occ_cons m x ns, subst (λ (k : ℕ). occ m (k ∷ []) ≡ 1) e (occ_self m))))
      (λ t. omega (arith, occ_cons m x ns, occ-other m x (eqb-false m x t), chain-once m (count C w x) ns c.3))

  -- a node of a chain is in the pool and marked free
  pub chain-free : (m n : ℕ) (ns : List ℕ) → Chain C P w n ns → 0 < occ m ns → (m < P) × (height C w m ≡ free_mark)
  unfolding Chain
  chain-free m n ns c p = let z = from_in m n ns c p in (z.1.1, z.1.2)

  pub chain-low : (n : ℕ) (ns : List ℕ) → Chain C P w n ns → n ≤ P
  unfolding Chain
  chain-low n [] c = omega arith
  chain-low n (m ∷ ms) c = omega arith

  pub long-firsts : (n k : ℕ) → length (firsts C w n k) ≡ k
  unfolding firsts
  long-firsts n zero = refl
  long-firsts n (suc k) = ap suc (long-firsts (count C w n) k)

  -- what the check follows is the chain
  pub follows : (n k : ℕ) → T (chain_ends C P w n k) → Chain C P w n (firsts C w n k)
  unfolding Chain chain_ends firsts
  follows n zero q = eqb→eq n P q
  follows n (suc k) q =
      let z = and_l (ltb n P && eqb (height C w n) free_mark) (chain_ends C P w (count C w n) k) q in (
        refl,
        ltb→lt n P (and_l (ltb n P) (eqb (height C w n) free_mark) z),
        eqb→eq (height C w n) free_mark (and_r (ltb n P) (eqb (height C w n) free_mark) z),
        follows (count C w n) k (and_r (ltb n P && eqb (height C w n) free_mark) (chain_ends C P w (count C w n) k) q),
      )

  pub followed : (n : ℕ) (ns : List ℕ) → Chain C P w n ns → chain_ends C P w n (length ns) ≡ true
  unfolding Chain chain_ends
  followed n [] c = eq-eqb n P c
  followed n (m ∷ ms) c = rw (c.0, lt-ltb m P c.1, eq-eqb (height C w m) free_mark c.2) (followed (count C w m) ms c.3)
