-- A tree whose first nodes can be freed.
use Rattle.std.specs.Prelude.{ℕ, ◌+◌, ◌≤◌, List, [], ◌∷◌, ◌++◌, ◌≡◌, false, take, length, T}
use Rattle.model.specs.Words.{Shape, height, free_count, Header}
use Rattle.model.specs.Reading.{Visit, occ, root_nodes}
use Rattle.model.specs.Paths.{entered}
use Rattle.law_formed.specs.Visits.{clean, lefts, enters}
use Rattle.tree_turn.specs.Left.{rest, Valid}

-- The walk from node n on begins with some visits, none of them unsound, that enter each node once and leave the first k
-- nodes in postorder; and the free count has room for these.
pub record CanFree (C : Shape) (P : ℕ) (w : List ℕ) (n k : ℕ) : Type 0 where
  pub header : Header C.cap P w
  pub valid : Valid C P w (height C w n) (entered n ∷ [])
  pub seen : List Visit
  pub after : List Visit
  pub parts : rest false C P w (height C w n) (entered n ∷ []) ≡ seen ++ after
  pub all-clean : T (clean seen)
  pub once-each : (m : ℕ) → occ m (n ∷ enters seen) ≤ 1
  pub are : lefts seen ≡ take k (root_nodes C w n)
  pub many : length (lefts seen) ≡ k
  pub room : free_count w + k ≤ 65535
