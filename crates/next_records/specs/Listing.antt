-- The entries of a leaf that a copy reads.
use Rattle.std.specs.Prelude.{ℕ, ◌<◌, ◌≤◌, List}
use Rattle.model.specs.LeafWalk.{records}
use Rattle.model.specs.declared.node.PageEntry.{PageEntry}
use Rattle.node_read.specs.Layout.{shape_of, Fits}
use Rattle.next_records.specs.declared.LeafEntries.{LeafEntries}

abbrev pub records_of : List ℕ → LeafEntries → List PageEntry
records_of w e = records (shape_of e.layout) w e.leaf.0 0 e.count

-- where there are any, they lie in the store
abbrev pub Readable : List ℕ → LeafEntries → Type 0
Readable w e = 0 < e.count → Fits e.layout w × ((e.leaf.0 < e.layout.pool) × (e.count ≤ e.layout.capacity))
