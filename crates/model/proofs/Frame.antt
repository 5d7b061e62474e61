-- A tree depends on the words of its nodes alone.
use Prim.Native.Nat.{ℕ, zero, suc, ◌+◌, ◌<◌, ◌≤◌}
use mathlib.Core.List.{List, [], ◌∷◌, ◌++◌}
use mathlib.Core.Path.{◌≡◌, refl, sym, ap}
use mathlib.Core.Logic.{⊎_elim}
use native.Mathlib.Omega.{arith}
use native.Mathlib.Nat.{zero-add, add_assoc, eq-or-lt_of_le}
use lib.ListN.{length}
use borrow.Author.Tests.{eq-eqb}
use Rattle.model.specs.Words.{Shape, part, count, row, child, row_place, child_place, node_size}
use Rattle.model.specs.Tree.{Limit, Open, Level, pairs_from, level, all_pairs}
use Rattle.model.specs.Reading.{occ, in_pairs, nodes}

-- node n has the same words in w and in v
abbrev pub Same : Shape → List ℕ → List ℕ → ℕ → Type 0
Same C w v n = (j : ℕ) → j < node_size C.cap → part C w n j ≡ part C v n j

-- no node has more than C pairs
unfoldable pub Narrow : Shape → (h : ℕ) → Level h → Type 0
Narrow C zero x = Unit {0}
Narrow C (suc h) t = (length t.pairs ≤ C.cap) × all_pairs (λ x r b. Narrow C h x) t.pairs Open

module _ (C : Shape) (w v : List ℕ) (n : ℕ) (s : Same C w v n) where
  pub same-pairs : {K : Type 0} (f g : ℕ → K) (i k : ℕ) → i + k ≤ C.cap → ((j : ℕ) → i ≤ j → j < i + k → f (child C w n j) ≡ g (child C w n j))
      → pairs_from C w f n i k ≡ pairs_from C v g n i k
  unfolding pairs_from
  same-pairs f g i zero h e = refl
  same-pairs f g i (suc k) h e =
      rw (s (row_place i) (omega arith), e i (omega arith) (omega arith), s (child_place i) (omega arith), same-pairs f g (i + 1) k (omega arith) (λ j a b. e j (omega arith) (omega arith)))

-- what lies at the path below n
unfoldable pub Agree : Shape → List ℕ → List ℕ → ℕ → ℕ → Type 0
Agree C w v zero x = Unit {0}
Agree C w v (suc h) n = (count C w n ≤ C.cap) × Same C w v n × ((i : ℕ) → i < count C w n → Agree C w v h (child C w n i))

pub frame : (C : Shape) (w v : List ℕ) (h n : ℕ) → Agree C w v h n → level C w h n ≡ level C v h n
unfolding level Agree
frame C w v zero n a = refl
frame C w v (suc h) n a =
    rw (a.1 0 (omega arith), a.1 2 (omega arith), a.1 3 (omega arith), same-pairs C w v n a.1 (level C w h) (level C v h) 0 (count C w n) (omega arith) (λ j x y. frame C w v h (child C w n j) (a.2 j (omega arith))), a.1 1 (omega arith))

pub occ-append : (m : ℕ) (a b : List ℕ) → occ m (a ++ b) ≡ occ m a + occ m b
unfolding occ
occ-append m [] b = sym (zero-add _)
occ-append m (x ∷ a) b = rw (occ-append m a b) (sym (add_assoc _ _ _))

pub occ_self : (m : ℕ) → occ m (m ∷ []) ≡ 1
unfolding occ
occ_self m = rw (eq-eqb m m refl)

pub length_pairs : {K : Type 0} (C : Shape) (w : List ℕ) (f : ℕ → K) (n i k : ℕ) → length (pairs_from C w f n i k) ≡ k
unfolding pairs_from
length_pairs C w f n i zero = refl
length_pairs C w f n i (suc k) = ap suc (length_pairs C w f n (i + 1) k)

module _ {K : Type 0} (C : Shape) (w : List ℕ) (f : ℕ → K) (n : ℕ) where
  -- child j is among the pairs from i on
  pub occ-child : (g : K → List ℕ) (m i k j : ℕ) → i ≤ j → j < i + k → occ m (g (f (child C w n j))) ≤ occ m (in_pairs g (pairs_from C w f n i k))
  unfolding pairs_from in_pairs
  occ-child g m i zero j l u = absurd (omega arith)
  occ-child g m i (suc k) j l u =
      let p = occ-append m (g (f (child C w n i))) (in_pairs g (pairs_from C w f n (i + 1) k)) in
      ⊎_elim
      (λ (e : i ≡ j). rw (← e) (omega (arith, p)))
      (λ (h : i < j). omega (arith, p, occ-child g m (i + 1) k j (omega arith) (omega arith)))
      (eq-or-lt_of_le l)

  pub all-child : (Q : K → ℕ → Limit → Type 0) (i k : ℕ) (b : Limit) → all_pairs Q (pairs_from C w f n i k) b → (j : ℕ) → i ≤ j → j < i + k → (c : Limit) × Q (f (child C w n j)) (row C w n j) c
  unfolding pairs_from all_pairs
  all-child Q i zero b a j l u = absurd (omega arith)
  all-child Q i (suc k) b a j l u =
      ⊎_elim
      (λ (e : i ≡ j). rw (← e) (_, a.0))
      (λ (h : i < j). all-child Q (i + 1) k b a.1 j (omega arith) (omega arith))
      (eq-or-lt_of_le l)

pub nodes_self : (C : Shape) (w : List ℕ) (h n m : ℕ) → occ m (nodes (suc h) (level C w (suc h) n)) ≡ occ m (in_pairs (nodes h) (pairs_from C w (level C w h) n 0 (count C w n))) + occ m (n ∷ [])
unfolding nodes level
nodes_self C w h n m = occ-append m (in_pairs (nodes h) (pairs_from C w (level C w h) n 0 (count C w n))) (n ∷ [])

pub agree : (C : Shape) (w v : List ℕ) (h n : ℕ) → Narrow C h (level C w h n) → ((m : ℕ) → 0 < occ m (nodes h (level C w h n)) → Same C w v m) → Agree C w v h n
unfolding Agree Narrow level
agree C w v zero n a s = tt
agree C w v (suc h) n a s = (
  omega (arith, a.0, length_pairs C w (level C w h) n 0 (count C w n)),
  s n (omega (arith, nodes_self C w h n n, occ_self n)),
  λ i l. agree C w v h (child C w n i) (all-child C w (level C w h) n (λ x r b. Narrow C h x) 0 (count C w n) Open a.1 i (omega arith) (omega arith)).1
      (λ m z. s m (omega (arith, nodes_self C w h n m, occ-child C w (level C w h) n (nodes h) m 0 (count C w n) i (omega arith) (omega arith)))),
)

-- the frame law
pub kept : (C : Shape) (w v : List ℕ) (h n : ℕ) → Narrow C h (level C w h n) → ((m : ℕ) → 0 < occ m (nodes h (level C w h n)) → Same C w v m) → level C w h n ≡ level C v h n
kept C w v h n a s = frame C w v h n (agree C w v h n a s)

pub occ_nil : (m : ℕ) → occ m [] ≡ 0
unfolding occ
occ_nil m = refl
