-- What a host is told of an answer.
use Rattle.std.specs.Prelude.{ℕ, List, ◌≡◌, get_or}
use Rattle.model.specs.Words.{fill}

-- Words in a lent array, as far as they fit, and the first of them as the number returned
pub record Tells (before words after : List ℕ) (r : ℕ) : Type 0 where
  pub array : after ≡ fill before 0 words
  pub number : r ≡ get_or words 0 0
