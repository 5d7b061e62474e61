-- The right edge of a tree and of the words, and the nodes that an append takes.
use Prim.Native.Nat.{ℕ, zero, suc, ◌<◌}
use mathlib.Core.List.{List, [], ◌∷◌}
use mathlib.Core.Path.{◌≡◌}
use lib.ListN.{length}
use Rattle.model.specs.Words.{Shape, child}
use Rattle.model.specs.Tree.{Level}
use Rattle.model.specs.Reading.{occ, to_right}
use Rattle.law_append.specs.Grown.{up}

-- of the last pair, which there is
unfoldable pub AtLast : {K : Type 0} → (K → Type 0) → List (ℕ × K) → Type 0
AtLast R [] = ⊥
AtLast R (p ∷ []) = R p.1
AtLast R (p ∷ q ∷ ps) = AtLast R (q ∷ ps)

-- the right leaf ends at s
unfoldable pub Tip : (h : ℕ) → Level (suc h) → ℕ → Type 0
Tip zero t s = t.end ≡ s
Tip (suc h) t s = AtLast (λ x. Tip h x s) t.pairs

-- numbers of nodes
unfoldable pub Inside : ℕ → List ℕ → Type 0
Inside P [] = Unit {0}
Inside P (n ∷ ns) = (n < P) × Inside P ns

unfoldable pub Distinct : List ℕ → Type 0
Distinct [] = Unit {0}
Distinct (n ∷ ns) = (occ n ns ≡ 0) × Distinct ns

-- room, d steps down the right edge
unfoldable pub Roomy : Shape → (d p : ℕ) → Level (suc (up p d)) → Type 0
Roomy C zero p t = length t.pairs < C.cap
Roomy C (suc d) p t = AtLast (λ x. Roomy C d p x) t.pairs

-- d steps down the right edge of the words
unfoldable pub right_at : Shape → List ℕ → ℕ → ℕ → ℕ
right_at C w zero n = n
right_at C w (suc d) n = right_at C w d (child C w n (to_right C w n))
