-- How a path was reached.
use Rattle.std.specs.Prelude.{ℕ, ◌+◌, List, [], ◌∷◌, ◌++◌, false, ◌≡◌, T}
use Rattle.model.specs.Words.{Shape, height}
use Rattle.model.specs.Reading.{Visit, occ}
use Rattle.model.specs.Paths.{trail, entered}
use Rattle.model.specs.declared.path.Path.{Path}
use Rattle.law_formed.specs.Visits.{clean, lefts, enters}
use Rattle.tree_turn.specs.Left.{rest, left, on_path}

-- From node n on the visits seen led to path p. None of them is unsound, and each node entered is on the path or was left.
pub record Walked (C : Shape) (P : ℕ) (w : List ℕ) (n : ℕ) (seen : List Visit) (p : Path) : Type 0 where
  pub one : rest false C P w (height C w n) (entered n ∷ []) ≡ seen ++ left false C P w p
  pub all-clean : T (clean seen)
  pub held : (m : ℕ) → occ m (n ∷ enters seen) ≡ occ m (on_path (trail p)) + occ m (lefts seen)
