-- A store holds a ledger: it is well-formed, and its entries are the ledger's ranges.
use Rattle.std.specs.Prelude.{ℕ, List, [], ◌∷◌, ◌≡◌}
use Rattle.model.specs.Words.{store_shape, Arrangement, root, start}
use Rattle.model.specs.Tree.{Below}
use Rattle.model.specs.Reading.{Entry, root_entries}
use Rattle.model.specs.WellFormed.{WellFormed}
use Rattle.model.specs.Ledger.{Range, Ledger}

-- the ranges of a ledger as entries: each begins where the one before it ends
unfoldable pub entries_from : ℕ → List Range → List Entry
entries_from s [] = []
entries_from s (g ∷ gs) = record { low = s; high = Below g.end; page = g.page } ∷ entries_from g.end gs

pub record Holds (L : Arrangement) (w : List ℕ) (l : Ledger) : Type 0 where
  pub formed : WellFormed L w
  pub begin : start (store_shape L w) w (root w) ≡ l.start
  pub entries : root_entries (store_shape L w) w (root w) ≡ entries_from l.start l.ranges
