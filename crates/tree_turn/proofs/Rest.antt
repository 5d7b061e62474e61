-- What a path has left to visit, one visit at a time.
use Prim.Native.Nat.{ℕ, suc, ◌+◌, ◌-◌, ◌<◌, ◌≤◌, zero-le}
use mathlib.Core.List.{List, [], ◌∷◌, ◌++◌, append_assoc}
use mathlib.Core.Bool.{Bool, true, false}
use mathlib.Core.Path.{◌≡◌, refl}
use native.Mathlib.Omega.{arith}
use native.Mathlib.Nat.{sub-zero}
use lib.Dec.{ltb}
use borrow.Author.Tests.{lt-ltb, le-ltb, ltb-true, ltb-false}
use Rattle.model.specs.Words.{Shape, pick, height, count, start, end, row, child, max_height}
use Rattle.model.specs.Tree.{Limit, Open, pairs_from, node_with, node_at, level, next, last, sound, over_pairs}
use Rattle.model.specs.Reading.{Enter, Leave, Bad, end_fits, passes, visits, next_row}
use Rattle.model.specs.Paths.{trail, last_of, above, turned, entered}
use Rattle.model.specs.declared.path.Position.{Position}
use Rattle.model.specs.declared.path.Path.{Path}
use Rattle.model.proofs.Tests.{by_test, and_l, holds}
use Rattle.model.proofs.Sound.{soundly, sound-at}
use Rattle.model.proofs.Frame.{length_pairs}
use Rattle.model.proofs.Paths.{stack_pop, stack-none}
use Rattle.tree_turn.specs.Left.{bound, rest, Valid, lowest, left}

-- what is next after entry i of node n
pub bound-turned : (C : Shape) (w : List ℕ) (p : Position) (up : List Position) → bound C w (turned p ∷ up) ≡ next_row C w p.node.0 p.index (bound C w up)
unfolding bound next_row
bound-turned C w p up = refl

-- the test of a node does not look at what its numbers lead to
pub passes_at : {K : Type 0} (ends : Bool) (C : Shape) (w : List ℕ) (f : ℕ → K) (n h r : ℕ) (b : Limit) → passes ends C h (node_with C w f n) r b ≡ passes ends C h (node_at C w n) r b
unfolding passes
passes_at ends C w f n h r b = rw (sound-at f C w h n r b)

module _ (ends : Bool) (C : Shape) (P : ℕ) where
  -- pages are not visited
  pages : (m : ℕ) (ps : List (ℕ × ℕ)) (b : Limit) → over_pairs (visits ends C P 0 m) ps b ≡ []
  unfolding over_pairs visits
  pages m [] b = refl
  pages m (p ∷ ps) b = pages m ps b

  module _ (w : List ℕ) where
    pub rest-leaf : (h : ℕ) (p : Position) (up : List Position) → h ≡ 0 → rest ends C P w h (p ∷ up) ≡ Leave p.node.0 ∷ rest ends C P w (suc h) up
    unfolding rest
    rest-leaf h p up e = rw (e, pages)

    pub rest_end : (h : ℕ) (p : Position) (up : List Position) → count C w p.node.0 ≤ p.index → rest ends C P w h (p ∷ up) ≡ Leave p.node.0 ∷ rest ends C P w (suc h) up
    unfolding rest pairs_from over_pairs
    rest_end h p up l = let e : count C w p.node.0 - p.index ≡ 0 = omega arith in rw e

    -- the first of the pairs from i on, in a branch
    child-bound : {K : Type 0} (f : ℕ → K) (n i : ℕ) (up : List Position)
        → next (pairs_from C w f n i (count C w n - i)) (bound C w up) ≡ bound C w (record { node = record { 0 = n }; index = i } ∷ up)
    unfolding next pairs_from bound
    child-bound f n i up =
        by_test (ltb i (count C w n))
        (λ t. let e : count C w n - i ≡ suc (count C w n - (i + 1)) = omega (arith, ltb-true) in rw (t, e))
        (λ t. let e : count C w n - i ≡ 0 = omega (arith, ltb-false) in rw (t, e))

    pub rest-child : (g : ℕ) (p : Position) (up : List Position) → p.index < count C w p.node.0
        → rest ends C P w (suc g) (p ∷ up)
        ≡ visits ends C P (suc g) p.node.0 (level C w (suc g) (child C w p.node.0 p.index)) (row C w p.node.0 p.index) (bound C w (turned p ∷ up)) ++ rest ends C P w (suc g) (turned p ∷ up)
    unfolding rest pairs_from over_pairs last
    rest-child g p up l =
        let e : count C w p.node.0 - p.index ≡ suc (count C w p.node.0 - (p.index + 1)) = omega arith in
        rw (e, child-bound (level C w (suc g)) p.node.0 (p.index + 1) up, append_assoc)

    -- what a child's visits begin with
    pub child-far : (g m n r : ℕ) (b : Limit) → P ≤ n → visits ends C P (suc g) m (level C w (suc g) n) r b ≡ Bad m ∷ []
    unfolding visits level
    child-far g m n r b l = rw (le-ltb n P l)

    pub child-bad : (g m n r : ℕ) (b : Limit) → n < P → passes ends C g (node_at C w n) r b ≡ false → visits ends C P (suc g) m (level C w (suc g) n) r b ≡ Bad n ∷ []
    unfolding visits level
    child-bad g m n r b l s = rw (lt-ltb n P l, passes_at ends C w (level C w g) n g r b, s)

    pub child-good : (g m n r : ℕ) (up : List Position) → n < P → passes ends C g (node_at C w n) r (bound C w up) ≡ true
        → visits ends C P (suc g) m (level C w (suc g) n) r (bound C w up) ++ rest ends C P w (suc g) up ≡ Enter n ∷ rest ends C P w g (entered n ∷ up)
    unfolding visits level rest
    child-good g m n r up l s = rw (lt-ltb n P l, passes_at ends C w (level C w g) n g r (bound C w up), s, sub-zero, append_assoc)

    pub fit-rest : (h : ℕ) (st : List Position) → Valid C P w h st → rest ends C P w (lowest C w st) st ≡ rest ends C P w h st
    unfolding rest lowest Valid
    fit-rest h [] v = refl
    fit-rest h (p ∷ up) v = rw v.high

    pub left_is : (q : Path) (h : ℕ) (st : List Position) → trail q ≡ st → Valid C P w h st → left ends C P w q ≡ rest ends C P w h st
    unfolding left
    left_is q h st e v = rw e (fit-rest h st v)

    pub left-top : (p : Path) → 0 < p.depth → left ends C P w p ≡ rest ends C P w (height C w (last_of p).node.0) (last_of p ∷ above p)
    unfolding left lowest
    left-top p z = rw (stack_pop p.positions p.depth z)

    pub left-none : (p : Path) → p.depth ≡ 0 → left ends C P w p ≡ []
    unfolding left rest
    left-none p z = rw (stack-none p.positions p.depth z)

-- a node that passes fits a path
pub passes-fits : (ends : Bool) (C : Shape) (w : List ℕ) (n h r : ℕ) (b : Limit) → passes ends C h (node_at C w n) r b ≡ true → (height C w n ≡ h) × (count C w n ≤ C.cap)
unfolding passes
passes-fits ends C w n h r b s =
    let q = soundly C h (node_at C w n) r b (and_l (sound C h (node_at C w n) r b) (pick ends (end_fits h b (end C w n)) true) (holds (passes ends C h (node_at C w n) r b) s)) in
    (q.high, omega (arith, q.many, length_pairs C w (λ (x : ℕ). x) n 0 (count C w n)))

pub valid-entered : (ends : Bool) (C : Shape) (P : ℕ) (w : List ℕ) (n g r : ℕ) (b : Limit) (st : List Position) → n < P → passes ends C g (node_at C w n) r b ≡ true → Valid C P w (suc g) st
    → Valid C P w g (entered n ∷ st)
unfolding Valid
valid-entered ends C P w n g r b st i s v =
    let q = passes-fits ends C w n g r b s in
    record { inside = i; high = q.0; within = zero-le; narrow = q.1; above = v }

-- a root that passes
pub root-valid : (ends : Bool) (C : Shape) (P : ℕ) (w : List ℕ) (n : ℕ) → height C w n ≤ max_height → n < P → passes ends C (height C w n) (node_at C w n) (start C w n) Open ≡ true
    → Valid C P w (height C w n) (entered n ∷ [])
unfolding Valid
root-valid ends C P w n h i s = valid-entered ends C P w n (height C w n) (start C w n) Open [] i s (omega arith)
