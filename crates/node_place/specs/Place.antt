-- Where the place of a row is.
use Rattle.std.specs.Prelude.{ℕ, ◌+◌, ◌<◌, ◌≤◌, List}
use Rattle.model.specs.Words.{Shape}
use Rattle.model.specs.Reading.{last_not_above}

-- the last of the first k entries of node n whose row is not above q is one of so many entries from low on
pub record LiesIn (C : Shape) (w : List ℕ) (q n k low width : ℕ) : Type 0 where
  pub from : low ≤ last_not_above C w q n k
  pub before : last_not_above C w q n k < low + width
