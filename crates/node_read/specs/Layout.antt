-- What the reading functions answer, on words.
use Rattle.std.specs.Prelude.{ℕ, ◌+◌, List, Option, Some, None, Result, Ok, Err, eqb, ltb}
use Rattle.model.specs.Words.{lent, Shape, shape, pick, capacity, pool, root, free_head, free_count, height, count, start, end, row, Header}
use Rattle.model.specs.Refusals.{header_ok}
use Rattle.model.specs.declared.node.RowPageIndexNodeHeader.{RowPageIndexNodeHeader}
use Rattle.model.specs.declared.id.RowID.{RowID}
use Rattle.model.specs.declared.answer.Refusal.{Refusal}
use Rattle.model.specs.declared.answer.Refusal.TheVariants.{Closed, Unsound}
use Rattle.node_read.specs.declared.layout.Layout.{Layout}
use Rattle.node_read.specs.declared.header.StoreHeader.{StoreHeader}

-- the shape of a lent store
abbrev pub shape_of : Layout → Shape
shape_of l = shape lent l.capacity

-- the words are a store of this layout
abbrev pub Fits : Layout → List ℕ → Type 0
Fits l w = Header l.capacity l.pool w

abbrev pub header_at : Shape → List ℕ → ℕ → RowPageIndexNodeHeader
header_at C w n =
    record {
      height = height C w n;
      count = count C w n;
      start_row_id = record { 0 = start C w n };
      end_row_id = record { 0 = end C w n };
    }

-- the row of the entry after entry i of node n, if there is one
unfoldable pub row_after : Shape → List ℕ → ℕ → ℕ → Option RowID
row_after C w n i = pick (ltb (i + 1) (count C w n)) (Some (record { 0 = row C w n (i + 1) })) None

abbrev pub store_header : List ℕ → StoreHeader
store_header w =
    record {
      layout = record { capacity = capacity w; pool = pool w };
      root = record { 0 = root w };
      free_head = record { 0 = free_head w };
      free_count = free_count w;
    }

-- "2 for the header, then 3"
unfoldable pub opened : List ℕ → Result StoreHeader Refusal
opened w =
    let passed = pick (eqb (root w) (pool w)) (Err Closed) (Ok (store_header w)) in
    pick (header_ok w) passed (Err (Unsound (record { 0 = 65535 })))
