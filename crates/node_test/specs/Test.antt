-- The node test as code answers it.
use Rattle.std.specs.Prelude.{ℕ, zero, suc, ◌+◌, List, Option, Some, None, ltb, eqb}
use Rattle.model.specs.Words.{Shape, pick, count, child}
use Rattle.model.specs.Tree.{node_at, sound}
use Rattle.model.specs.Tree as Tree
use Rattle.model.specs.declared.id.RowID.{RowID}

-- the row of the next entry on a path, if there is one
abbrev pub limit_of : Option RowID → Tree.Limit
limit_of None = Tree.Open
limit_of (Some r) = Tree.Below r.0

-- the first of child numbers i, i + 1, …, k of them, that is not below P; i + k where all are
unfoldable pub first_out : Shape → ℕ → List ℕ → ℕ → ℕ → ℕ → ℕ
first_out C P w n i zero = i
first_out C P w n i (suc k) = pick (ltb (child C w n i) P) (first_out C P w n (i + 1) k) i

-- sound or not; of a branch also "of its children, which number out of range comes first"
unfoldable pub node_test : Shape → ℕ → List ℕ → ℕ → ℕ → ℕ → Tree.Limit → Option ℕ
node_test C P w n h r b =
    let out = pick (eqb h 0) (count C w n) (first_out C P w n 0 (count C w n)) in
    pick (sound C h (node_at C w n) r b) (Some out) None
