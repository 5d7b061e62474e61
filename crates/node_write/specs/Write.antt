-- What the writing functions leave, as puts.
use Rattle.std.specs.Prelude.{ℕ, List}
use Rattle.model.specs.Words.{Shape, put, row_place, child_place}
use Rattle.model.specs.declared.node.RowPageIndexNodeHeader.{RowPageIndexNodeHeader}

abbrev pub put_header : Shape → List ℕ → ℕ → RowPageIndexNodeHeader → List ℕ
put_header C w n h = put C (put C (put C (put C w n 0 h.height) n 1 h.count) n 2 h.start_row_id.0) n 3 h.end_row_id.0

abbrev pub put_entry : Shape → List ℕ → ℕ → ℕ → ℕ → ℕ → List ℕ
put_entry C w n i r x = put C (put C w n (row_place i) r) n (child_place i) x
