-- The last pair of a node, on the words.
use Prim.Native.Nat.{ℕ, zero, suc, ◌+◌, ◌-◌, ◌<◌, ◌≤◌}
use mathlib.Core.List.{List, [], ◌∷◌, ◌++◌}
use mathlib.Core.Path.{◌≡◌, refl, ap, ◌∙◌, subst}
use native.Mathlib.Omega.{arith}
use native.Mathlib.Nat.{zero-add}
use lib.Dec.{ltb→lt}
use Rattle.model.specs.Words.{Shape, height, count, start, end, row, child, row_place, child_place}
use Rattle.model.specs.Tree.{Limit, Level, pairs_from, level, next, last, all_pairs, AllSound}
use Rattle.model.specs.Reading.{occ, in_pairs, nodes, to_right}
use Rattle.model.proofs.Sound.{soundly}
use Rattle.model.proofs.Frame.{Same, occ-append, occ_self, occ_nil, nodes_self, occ-child, all-child, length_pairs}
use Rattle.model.proofs.Writes.{pairs_snoc, pairs-same}
use Rattle.model.proofs.Once.{some_pairs, once}
use Rattle.law_append.specs.Grown.{on_last, up}
use Rattle.law_append.proofs.Right.{AtLast, right_at}

module _ {K : Type 0} where
  pub on-last : (f : K → K) (ks : List (ℕ × K)) (k : ℕ × K) → on_last f (ks ++ (k ∷ [])) ≡ ks ++ ((k.0, f k.1) ∷ [])
  unfolding on_last
  on-last f [] k = refl
  on-last f (a ∷ []) k = refl
  on-last f (a ∷ b ∷ ks) k = ap (λ l. a ∷ l) (on-last f (b ∷ ks) k)

  pub occ-last : (g : K → List ℕ) (m : ℕ) (ks : List (ℕ × K)) (k : ℕ × K) → occ m (in_pairs g (ks ++ (k ∷ []))) ≡ occ m (in_pairs g ks) + occ m (g k.1)
  unfolding in_pairs
  occ-last g m [] k = omega (arith, occ-append m (g k.1) [], occ_nil m)
  occ-last g m (a ∷ ks) k =
      omega (arith, occ-append m (g a.1) (in_pairs g (ks ++ (k ∷ []))), occ-append m (g a.1) (in_pairs g ks), occ-last g m ks k)

  pub at_snoc : (R : K → Type 0) (ks : List (ℕ × K)) (k : ℕ × K) → R k.1 → AtLast R (ks ++ (k ∷ []))
  unfolding AtLast
  at_snoc R [] k p = p
  at_snoc R (a ∷ []) k p = p
  at_snoc R (a ∷ b ∷ ks) k p = at_snoc R (b ∷ ks) k p

  -- what the last pair has, by the limit of the list
  pub all-last : (Q : K → ℕ → Limit → Type 0) (ks : List (ℕ × K)) (k : ℕ × K) (b : Limit) → all_pairs Q (ks ++ (k ∷ [])) b → Q k.1 k.0 b
  unfolding all_pairs next
  all-last Q [] k b a = a.0
  all-last Q (x ∷ ks) k b a = all-last Q ks k b a.1

pub last_apart : {K : Type 0} (C : Shape) (w : List ℕ) (f : ℕ → K) (n k : ℕ) → 0 < k → pairs_from C w f n 0 k ≡ pairs_from C w f n 0 (k - 1) ++ ((row C w n (k - 1), f (child C w n (k - 1))) ∷ [])
last_apart C w f n k p =
    let e : suc (k - 1) ≡ k = omega arith in
    subst (λ (j : ℕ). pairs_from C w f n 0 j ≡ pairs_from C w f n 0 (k - 1) ++ ((row C w n (k - 1), f (child C w n (k - 1))) ∷ [])) e (pairs_snoc C w f n 0 (k - 1) ∙ rw zero-add)

-- a node whose words stay, and what lies below all its pairs but the last, with F of that below the last
pub same_but_last : (C : Shape) (w v : List ℕ) (g n : ℕ) (F : Level g → Level g) → Same C w v n → 0 < count C w n → count C w n ≤ C.cap
    → ((i : ℕ) → i < count C w n - 1 → level C w g (child C w n i) ≡ level C v g (child C w n i))
    → level C v g (child C w n (to_right C w n)) ≡ F (level C w g (child C w n (to_right C w n)))
    → level C v (suc g) n ≡ record { number = n; height = height C w n; start = start C w n; end = end C w n; pairs = on_last F (pairs_from C w (level C w g) n 0 (count C w n)) }
unfolding level
same_but_last C w v g n F o p u e f =
    rw (
      ← o 0 (omega arith),
      ← o 1 (omega arith),
      ← o 2 (omega arith),
      ← o 3 (omega arith),
      last_apart C v (level C v g) n (count C w n) p,
      last_apart C w (level C w g) n (count C w n) p,
      on-last,
      ← o (row_place (count C w n - 1)) (omega arith),
      ← o (child_place (count C w n - 1)) (omega arith),
      f,
      pairs-same C w v (level C w g) (level C v g) n n 0 (count C w n - 1) (λ j a b. (o (row_place j) (omega arith), o (child_place j) (omega arith), e j (omega arith))),
    )

module _ (C : Shape) (P : ℕ) (w : List ℕ) where
  pub few-pairs : (g n r : ℕ) (b : Limit) → AllSound C P (suc g) (level C w (suc g) n) r b → (count C w n ≤ C.cap) × (n < P)
  unfolding AllSound level
  few-pairs g n r b q = (omega (arith, (soundly C g (level C w (suc g) n) r b q.1).many, length_pairs C w (level C w g) n 0 (count C w n)), ltb→lt n P q.0)

  -- child i of a sound node is sound
  pub child-sound : (g n r : ℕ) (b : Limit) → AllSound C P (suc g) (level C w (suc g) n) r b → (i : ℕ) → i < count C w n → (c : Limit) × AllSound C P g (level C w g (child C w n i)) (row C w n i) c
  unfolding AllSound level
  child-sound g n r b q i l = all-child C w (level C w g) n (AllSound C P g) 0 (count C w n) (last g (end C w n) b) q.2 i (omega arith) (omega arith)

  module _ (g n r : ℕ) (b : Limit) (q : AllSound C P (suc g) (level C w (suc g) n) r b) where
    -- the pairs before the last
    pub front : List (ℕ × Level g)
    front = pairs_from C w (level C w g) n 0 (count C w n - 1)

    pub split-pairs : pairs_from C w (level C w g) n 0 (count C w n) ≡ front ++ ((row C w n (to_right C w n), level C w g (child C w n (to_right C w n))) ∷ [])
    unfolding front
    split-pairs = last_apart C w (level C w g) n (count C w n) (some_pairs C P w g n r b q)

    -- the last child is sound, by the limit of the node's pairs
    pub last-sound : AllSound C P g (level C w g (child C w n (to_right C w n))) (row C w n (to_right C w n)) (last g (end C w n) b)
    unfolding AllSound level
    last-sound =
        all-last (AllSound C P g) front (row C w n (to_right C w n), level C w g (child C w n (to_right C w n))) (last g (end C w n) b)
        (subst (λ (ks : List (ℕ × Level g)). all_pairs (AllSound C P g) ks (last g (end C w n) b)) split-pairs q.2)

    pub at-child : (R : Level g → Type 0) → R (level C w g (child C w n (to_right C w n))) → AtLast R (level C w (suc g) n).pairs
    unfolding level
    at-child R p = rw split-pairs (at_snoc R front (row C w n (to_right C w n), level C w g (child C w n (to_right C w n))) p)

    -- a node below the last child is below no other
    pub alone : (m i : ℕ) → i < count C w n - 1 → 0 < occ m (nodes g (level C w g (child C w n (to_right C w n)))) → occ m (nodes g (level C w g (child C w n i))) ≡ 0
    unfolding front
    alone m i l p =
        let x = once C P w m (suc g) n r b q in
        let y = nodes_self C w g n m in
        let z = ap (λ (ks : List (ℕ × Level g)). occ m (in_pairs (nodes g) ks)) split-pairs ∙ occ-last (nodes g) m front (row C w n (to_right C w n), level C w g (child C w n (to_right C w n))) in
        omega (arith, occ-child C w (level C w g) n (nodes g) m 0 (count C w n - 1) i (omega arith) (omega arith))

  -- nodes below a child are below its node
  pub below-child : (h n i m : ℕ) → i < count C w n → 0 < occ m (nodes h (level C w h (child C w n i))) → 0 < occ m (nodes (suc h) (level C w (suc h) n))
  below-child h n i m l p = omega (arith, nodes_self C w h n m, occ-child C w (level C w h) n (nodes h) m 0 (count C w n) i (omega arith) (omega arith))

  -- the node d steps down the right edge
  pub right_in : (d p n r : ℕ) (b : Limit) → AllSound C P (suc (up p d)) (level C w (suc (up p d)) n) r b
      → (0 < occ (right_at C w d n) (nodes (suc (up p d)) (level C w (suc (up p d)) n))) × (right_at C w d n < P)
  unfolding right_at last
  right_in zero p n r b q = (omega (arith, nodes_self C w p n n, occ_self n), (few-pairs p n r b q).1)
  right_in (suc d) p n r b q =
      let i = to_right C w n in
      let y = right_in d p (child C w n i) (row C w n i) b (last-sound (suc (up p d)) n r b q) in
      (below-child (suc (up p d)) n i (right_at C w d (child C w n i)) (omega (arith, some_pairs C P w (suc (up p d)) n r b q)) y.0, y.1)
