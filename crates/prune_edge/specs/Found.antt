-- The edge that the code finds, whatever row and root it was looked for.
use Rattle.std.specs.Prelude.{ℕ, List}
use Rattle.model.specs.Words.{Shape}
use Rattle.model.specs.declared.path.Path.{Path}
use Rattle.prune_boundary.specs.Edge.{Ended, Topped, PruneEdge}
use Rattle.prune_edge.specs.declared.Boundary.{Boundary}

-- a path whose last leaf has u entries that go, after k nodes
abbrev pub Given : Shape → ℕ → List ℕ → Path → ℕ → ℕ → Type 0
Given C P w p u k = (e : ℕ) × (root : ℕ) × Ended C P w e root p u k

unfoldable pub Climbs : Shape → ℕ → List ℕ → Path → ℕ → ℕ → Boundary → Type 0
Climbs C P w p u k b = (e root : ℕ) → Ended C P w e root p u k → Topped C P w e root b.edge b.gone

unfoldable pub Finds : Shape → ℕ → List ℕ → Path → ℕ → ℕ → Boundary → Type 0
Finds C P w p u k b = (e root : ℕ) → Ended C P w e root p u k → PruneEdge C P w e root b.edge b.gone
