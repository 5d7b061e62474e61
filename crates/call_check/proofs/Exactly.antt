-- The full check accepts exactly the well-formed stores.
use Prim.Native.Nat.{ℕ}
use mathlib.Core.List.{List, [], ◌∷◌}
use mathlib.Core.Path.{◌≡◌}
use lib.ListN.{length}
use Rattle.model.specs.Words.{store_shape, lent, root, free_count}
use Rattle.model.specs.Reading.{root_entries, root_nodes}
use Rattle.model.specs.WellFormed.{WellFormed}
use Rattle.model.specs.FullCheck.{full_check}
use Rattle.model.specs.Refusals.{result}
use Rattle.law_formed.proofs.Check.{accepts, accepted}

-- entries, tree nodes and free nodes are answered
unfoldable pub Accepts : List ℕ → Type 0
Accepts w = (a : ℕ) × (b : ℕ) × (c : ℕ) × (full_check lent w ≡ result (a ∷ b ∷ c ∷ []))

pub exactly : (w : List ℕ) → (WellFormed lent w → Accepts w) × (Accepts w → WellFormed lent w)
unfolding Accepts
exactly w = (
  λ f. (length (root_entries (store_shape lent w) w (root w)), length (root_nodes (store_shape lent w) w (root w)), free_count w, accepted lent w f),
  λ q. accepts lent w (q.0 ∷ q.1 ∷ q.2 ∷ []) q.3,
)
