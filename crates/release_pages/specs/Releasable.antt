-- A tree that can be released, and the row that is compared with the pivot.
use Rattle.std.specs.Prelude.{ℕ, ◌+◌, ◌<◌, ◌≤◌, List, Bool, ◌&&◌, Option, Some, None, ltb}
use Rattle.model.specs.Words.{Shape, pick, free_count, height, start, Header}
use Rattle.model.specs.WellFormed.{SoundRoot}
use Rattle.model.specs.declared.id.RowID.{RowID}

-- all nodes from root n are sound, and the free count has room for k more
pub record Releasable (C : Shape) (P : ℕ) (w : List ℕ) (n k : ℕ) : Type 0 where
  pub header : Header C.cap P w
  pub inside : n < P
  pub sound : SoundRoot C P w (height C w n) n
  pub room : free_count w + k ≤ 65535

-- there are entries, and the first is below row v
abbrev pub starts_below : Shape → List ℕ → ℕ → ℕ → ℕ → Bool
starts_below C w n entries v = ltb 0 entries && ltb (start C w n) v

-- the first row, if it is
unfoldable pub first_below : Shape → List ℕ → ℕ → ℕ → ℕ → Option RowID
first_below C w n entries v = pick (starts_below C w n entries v) (Some (record { 0 = start C w n })) None
