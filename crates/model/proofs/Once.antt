-- In a tree whose nodes are all sound each node stands once: its start tells its place in its level, and its height the
-- level. None of them bears the free mark.
use Prim.Native.Nat.{ℕ, zero, suc, ◌+◌, ◌<◌, ◌≤◌}
use mathlib.Core.List.{List, [], ◌∷◌}
use mathlib.Core.Path.{◌≡◌, refl, sym, ap, subst}
use mathlib.Core.Logic.{◌≢◌}
use native.Mathlib.Omega.{arith}
use lib.ListN.{length}
use lib.Dec.{ltb, eqb}
use borrow.Author.Tests.{eqb-true, eqb-false, ltb-true, ltb-false, ne_eqb}
use Rattle.model.specs.Words.{Shape, height, count, start, end, child, free_mark}
use Rattle.model.specs.Tree.{Limit, Below, Level, pairs_from, level, next, last, all_pairs, Under, AllSound}
use Rattle.model.specs.Reading.{occ, in_pairs, nodes}
use Rattle.model.proofs.Tests.{by_test}
use Rattle.model.proofs.Sound.{below_trans, sound-below, chain, Begins, begins, sound-begins, last-below, sound-ends, soundly}
use Rattle.model.proofs.Frame.{length_pairs, occ-append, occ_self, nodes_self, occ_nil}

-- s is the start of node m, which stands in a child: then s lies in the child's rows
module _ {K : Type 0} (Q : K → ℕ → Limit → Type 0) (below : (x : K) (r : ℕ) (b : Limit) → Q x r b → Under r b) (ns : K → List ℕ) (m s : ℕ)
    (near : (x : K) (r : ℕ) (b : Limit) → Q x r b → 0 < occ m (ns x) → (r ≤ s) × Under s b) where
  pairs-near : (k : ℕ × K) (ks : List (ℕ × K)) (b : Limit) → all_pairs Q (k ∷ ks) b → 0 < occ m (in_pairs ns (k ∷ ks)) → (k.0 ≤ s) × Under s b
  unfolding all_pairs in_pairs next Under
  pairs-near k [] b g p = near k.1 k.0 b g.0 (omega (arith, occ-append m (ns k.1) [], occ_nil m))
  pairs-near k (k₂ ∷ ks) b g p =
      by_test (ltb 0 (occ m (ns k.1)))
      (λ t. let q = near k.1 k.0 (Below k₂.0) g.0 (ltb-true 0 (occ m (ns k.1)) t) in
      (q.0, below_trans s k₂.0 b q.1 (chain Q below k₂ ks b g.1)))
      (λ t. let q = pairs-near k₂ ks b g.1 (omega (arith, ltb-false 0 (occ m (ns k.1)) t, occ-append m (ns k.1) (in_pairs ns (k₂ ∷ ks)))) in
      let h : k.0 < k₂.0 = below k.1 k.0 (Below k₂.0) g.0 in (omega (arith, q.0), q.1))

  pairs-once : ((x : K) (r : ℕ) (b : Limit) → Q x r b → occ m (ns x) ≤ 1) → (k : ℕ × K) (ks : List (ℕ × K)) (b : Limit) → all_pairs Q (k ∷ ks) b → occ m (in_pairs ns (k ∷ ks)) ≤ 1
  unfolding all_pairs in_pairs next Under
  pairs-once one k [] b g = omega (arith, one k.1 k.0 b g.0, occ-append m (ns k.1) [], occ_nil m)
  pairs-once one k (k₂ ∷ ks) b g =
      let e = occ-append m (ns k.1) (in_pairs ns (k₂ ∷ ks)) in
      by_test (ltb 0 (occ m (ns k.1)))
      (λ t. by_test (ltb 0 (occ m (in_pairs ns (k₂ ∷ ks))))
      (λ u. let q : s < k₂.0 = (near k.1 k.0 (Below k₂.0) g.0 (ltb-true 0 (occ m (ns k.1)) t)).1 in
      absurd (omega (arith, q, (pairs-near k₂ ks b g.1 (ltb-true 0 (occ m (in_pairs ns (k₂ ∷ ks))) u)).0)))
      (λ u. omega (arith, e, one k.1 k.0 (Below k₂.0) g.0, ltb-false 0 (occ m (in_pairs ns (k₂ ∷ ks))) u)))
      (λ t. omega (arith, e, pairs-once one k₂ ks b g.1, ltb-false 0 (occ m (ns k.1)) t))

pub occ-other : (m n : ℕ) → m ≢ n → occ m (n ∷ []) ≡ 0
unfolding occ
occ-other m n d = rw (ne_eqb m n d)

begins-some : {K : Type 0} {r : ℕ} {ps : List (ℕ × K)} → Begins r ps → 0 < length ps
begins-some (begins x ps) = omega arith

module _ (C : Shape) (P : ℕ) (w : List ℕ) where
  -- a good child that the words hold
  unfoldable pub Held : (g : ℕ) → Level g → ℕ → Limit → Type 0
  Held g x r b = AllSound C P g x r b × ((c : ℕ) × (x ≡ level C w g c))

  pub held-pairs : (g n i k : ℕ) (b : Limit) → all_pairs (AllSound C P g) (pairs_from C w (level C w g) n i k) b → all_pairs (Held g) (pairs_from C w (level C w g) n i k) b
  unfolding all_pairs pairs_from Held
  held-pairs g n i zero b a = tt
  held-pairs g n i (suc k) b a = ((a.0, (child C w n i, refl)), held-pairs g n (i + 1) k b a.1)

  held_below : (g : ℕ) (x : Level g) (r : ℕ) (b : Limit) → Held g x r b → Under r b
  unfolding Held
  held_below g x r b q = sound-below C P g x r b q.0

  -- what soundness says of a node's own words
  pub own : (g n r : ℕ) (b : Limit) → AllSound C P (suc g) (level C w (suc g) n) r b → (height C w n ≡ g) × (start C w n ≡ r)
  unfolding AllSound level
  own g n r b q = let s = soundly C g (level C w (suc g) n) r b q.1 in (s.high, s.begin)

  -- the pairs of a good node begin at its row
  pub first-child : (g n r : ℕ) (b : Limit) → AllSound C P (suc g) (level C w (suc g) n) r b → Begins r (pairs_from C w (level C w g) n 0 (count C w n))
  unfolding AllSound level
  first-child g n r b q = sound-begins C g (level C w (suc g) n) r b q.1

  -- and there are some
  pub some_pairs : (g n r : ℕ) (b : Limit) → AllSound C P (suc g) (level C w (suc g) n) r b → 0 < count C w n
  some_pairs g n r b q = omega (arith, begins-some (first-child g n r b q), length_pairs C w (level C w g) n 0 (count C w n))

  pub the_pairs : (g n r : ℕ) (b : Limit) → AllSound C P (suc g) (level C w (suc g) n) r b → all_pairs (Held g) (pairs_from C w (level C w g) n 0 (count C w n)) (last g (end C w n) b)
  unfolding AllSound level
  the_pairs g n r b q = held-pairs g n 0 (count C w n) (last g (end C w n) b) q.2

  up : (g n r s : ℕ) (b : Limit) → AllSound C P (suc g) (level C w (suc g) n) r b → Under s (last g (end C w n) b) → Under s b
  unfolding AllSound level
  up g n r s b q u = last-below g (level C w (suc g) n) s b (sound-ends C g (level C w (suc g) n) r b q.1) u

  module _ (m : ℕ) where
    near-pairs : (g : ℕ) → ((x : Level g) (r : ℕ) (b : Limit) → Held g x r b → 0 < occ m (nodes g x) → (r ≤ start C w m) × Under (start C w m) b)
        → (r : ℕ) (b : Limit) (ks : List (ℕ × Level g)) → Begins r ks → all_pairs (Held g) ks b → 0 < occ m (in_pairs (nodes g) ks) → (r ≤ start C w m) × Under (start C w m) b
    near-pairs g near r b _ (begins x ks) a p = pairs-near (Held g) (held_below g) (nodes g) m (start C w m) near (r, x) ks b a p

    near : (h n r : ℕ) (b : Limit) → AllSound C P h (level C w h n) r b → 0 < occ m (nodes h (level C w h n)) → (r ≤ start C w m) × Under (start C w m) b
    unfolding nodes Held
    near zero n r b q p = absurd (omega (arith, occ_nil m))
    near (suc g) n r b q p =
        by_test (eqb m n)
        (λ t. let e = eqb-true m n t in rw e (rw (own g n r b q).1 (omega arith, sound-below C P (suc g) (level C w (suc g) n) r b q)))
        (λ t. let z = near-pairs g (λ x r₂ b₂ hx. subst (λ (y : Level g). 0 < occ m (nodes g y) → (r₂ ≤ start C w m) × Under (start C w m) b₂) (sym hx.1.1) (near g hx.1.0 r₂ b₂ (subst (λ (y : Level g). AllSound C P g y r₂ b₂) hx.1.1 hx.0)))
        r (last g (end C w n) b) (pairs_from C w (level C w g) n 0 (count C w n)) (first-child g n r b q) (the_pairs g n r b q)
        (omega (arith, nodes_self C w g n m, occ-other m n (eqb-false m n t))) in
        (z.0, up g n r (start C w m) b q z.1))

    pairs-some : {K A : Type 0} (Q : K → ℕ → Limit → Type 0) (ns : K → List ℕ) → ((x : K) (r : ℕ) (b : Limit) → Q x r b → 0 < occ m (ns x) → A) → (ks : List (ℕ × K)) (b : Limit) → all_pairs Q ks b → 0 < occ m (in_pairs ns ks) → A
    unfolding all_pairs in_pairs
    pairs-some Q ns f [] b a p = absurd (omega (arith, occ_nil m))
    pairs-some Q ns f (k ∷ ks) b a p =
        by_test (ltb 0 (occ m (ns k.1)))
        (λ t. f k.1 k.0 (next ks b) a.0 (ltb-true 0 (occ m (ns k.1)) t))
        (λ t. pairs-some Q ns f ks b a.1 (omega (arith, ltb-false 0 (occ m (ns k.1)) t, occ-append m (ns k.1) (in_pairs ns ks))))

    pub lower : (h n r : ℕ) (b : Limit) → AllSound C P h (level C w h n) r b → 0 < occ m (nodes h (level C w h n)) → height C w m < h
    unfolding nodes Held
    lower zero n r b q p = absurd (omega (arith, occ_nil m))
    lower (suc g) n r b q p =
        by_test (eqb m n)
        (λ t. let e = eqb-true m n t in rw e (omega (arith, (own g n r b q).0)))
        (λ t. let z : height C w m < g = pairs-some (Held g) (nodes g)
        (λ x r₂ b₂ hx. subst (λ (y : Level g). 0 < occ m (nodes g y) → height C w m < g) (sym hx.1.1) (lower g hx.1.0 r₂ b₂ (subst (λ (y : Level g). AllSound C P g y r₂ b₂) hx.1.1 hx.0)))
        (pairs_from C w (level C w g) n 0 (count C w n)) (last g (end C w n) b) (the_pairs g n r b q)
        (omega (arith, nodes_self C w g n m, occ-other m n (eqb-false m n t))) in omega arith)

    pub once-pairs : (g : ℕ) → ((x : Level g) (r : ℕ) (b : Limit) → Held g x r b → 0 < occ m (nodes g x) → (r ≤ start C w m) × Under (start C w m) b)
        → ((x : Level g) (r : ℕ) (b : Limit) → Held g x r b → occ m (nodes g x) ≤ 1)
        → (r : ℕ) (b : Limit) (ks : List (ℕ × Level g)) → Begins r ks → all_pairs (Held g) ks b → occ m (in_pairs (nodes g) ks) ≤ 1
    once-pairs g near₂ one r b _ (begins x ks) a = pairs-once (Held g) (held_below g) (nodes g) m (start C w m) near₂ one (r, x) ks b a

    pub near-held : (g : ℕ) (x : Level g) (r : ℕ) (b : Limit) → Held g x r b → 0 < occ m (nodes g x) → (r ≤ start C w m) × Under (start C w m) b
    unfolding Held
    near-held g x r b hx = subst (λ (y : Level g). 0 < occ m (nodes g y) → (r ≤ start C w m) × Under (start C w m) b) (sym hx.1.1) (near g hx.1.0 r b (subst (λ (y : Level g). AllSound C P g y r b) hx.1.1 hx.0))

    -- the law
    pub once : (h n r : ℕ) (b : Limit) → AllSound C P h (level C w h n) r b → occ m (nodes h (level C w h n)) ≤ 1
    unfolding nodes Held
    once zero n r b q = omega (arith, occ_nil m)
    once (suc g) n r b q =
        let ks = pairs_from C w (level C w g) n 0 (count C w n) in
        by_test (eqb m n)
        (λ t. let e : m ≡ n = eqb-true m n t in
        by_test (ltb 0 (occ m (in_pairs (nodes g) ks)))
        (λ u. absurd (omega (
          arith,
          (own g n r b q).0,
          ap (height C w) e,
          pairs-some (Held g) (nodes g)
              (λ x r₂ b₂ hx. subst (λ (y : Level g). 0 < occ m (nodes g y) → height C w m < g) (sym hx.1.1) (lower g hx.1.0 r₂ b₂ (subst (λ (y : Level g). AllSound C P g y r₂ b₂) hx.1.1 hx.0)))
              ks (last g (end C w n) b) (the_pairs g n r b q) (ltb-true 0 (occ m (in_pairs (nodes g) ks)) u),
        )))
        (λ u. omega (arith, nodes_self C w g n m, ltb-false 0 (occ m (in_pairs (nodes g) ks)) u, subst (λ (k : ℕ). occ m (k ∷ []) ≡ 1) e (occ_self m))))
        (λ t. omega (
          arith,
          nodes_self C w g n m,
          occ-other m n (eqb-false m n t),
          once-pairs g (near-held g) (λ x r₂ b₂ hx. subst (λ (y : Level g). occ m (nodes g y) ≤ 1) (sym hx.1.1) (once g hx.1.0 r₂ b₂ (subst (λ (y : Level g). AllSound C P g y r₂ b₂) hx.1.1 hx.0)))
              r (last g (end C w n) b) ks (first-child g n r b q) (the_pairs g n r b q),
        ))

    -- and none is free
    pub not_free : (h n r : ℕ) (b : Limit) → AllSound C P h (level C w h n) r b → h ≤ 32 → 0 < occ m (nodes h (level C w h n)) → height C w m ≢ free_mark
    not_free h n r b q u p e = omega (arith, lower h n r b q p)
