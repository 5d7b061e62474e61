-- Nodes that are trimmed, each with how many of its entries go.
use Rattle.std.specs.Prelude.{ℕ, zero, suc, ◌+◌, ◌<◌, ◌≤◌, List, [], ◌∷◌, ◌≡◌, ◌≢◌, get_or}
use Rattle.model.specs.Words.{Shape, count}
use Rattle.model.specs.Reading.{occ}
use Rattle.model.specs.Paths.{no_position}
use Rattle.model.specs.declared.path.Position.{Position}
use Rattle.model.specs.declared.path.Path.{Path}

-- positions i, …, m of them
unfoldable pub trims_from : List Position → ℕ → ℕ → List (ℕ × ℕ)
trims_from l i zero = []
trims_from l i (suc m) = ((get_or l i no_position).node.0, (get_or l i no_position).index) ∷ trims_from l (i + 1) m

-- the nodes of an edge
abbrev pub trims_of : Path → List (ℕ × ℕ)
trims_of edge = trims_from edge.positions 0 edge.depth

-- below them no entries go, on d levels in all
abbrev pub NoneBelow : Path → ℕ → Type 0
NoneBelow edge d = (i : ℕ) → edge.depth ≤ i → i < d → (get_or edge.positions i no_position).index ≡ 0

-- no node of a list is n
unfoldable pub Apart : ℕ → List (ℕ × ℕ) → Type 0
Apart n [] = Unit {0}
Apart n (t ∷ ts) = (t.0 ≢ n) × Apart n ts

-- nodes that can be trimmed one after the other
unfoldable pub Trims : Shape → ℕ → List ℕ → List (ℕ × ℕ) → Type 0
Trims C P w [] = Unit {0}
Trims C P w (t ∷ ts) =
    record {
      inside : t.0 < P;
      keeps : t.1 < count C w t.0;
      narrow : count C w t.0 ≤ C.cap;
      apart : Apart t.0 ts;
      after : Trims C P w ts;
    }

-- none of these nodes, or of these trimmed nodes, is in l
unfoldable pub Outside : List ℕ → List ℕ → Type 0
Outside l [] = Unit {0}
Outside l (m ∷ ms) = (occ m l ≡ 0) × Outside l ms

unfoldable pub Untouched : List ℕ → List (ℕ × ℕ) → Type 0
Untouched l [] = Unit {0}
Untouched l (t ∷ ts) = (occ t.0 l ≡ 0) × Untouched l ts
