-- 01, "Leaf walk (`RowPageIndexMemCursor`)".
use Rattle.std.specs.Prelude.{ℕ, zero, suc, ◌+◌, List, [], ◌∷◌, Bool, true, false, length, ltb}
use Rattle.model.specs.Words.{store_shape, Arrangement, Shape, pick, fill, pool, root, count, start, end, row, child}
use Rattle.model.specs.Tree.{Limit, Open, Below}
use Rattle.model.specs.Reading.{Reached, unsound, leaf, root_leaf, to_row}
use Rattle.model.specs.Refusals.{Answer, result, refused, when_open}
use Rattle.model.specs.declared.node.PageEntry.{PageEntry}
use Rattle.model.specs.declared.cursor.RowPageIndexMemCursor.{RowPageIndexMemCursor}

abbrev pub cursor_at : ℕ → Bool → RowPageIndexMemCursor
cursor_at r d = record { row_id = record { 0 = r }; done = d }

-- "a cursor never sought is done"
abbrev pub unsought : RowPageIndexMemCursor
unsought = cursor_at 0 true

-- "Seek keeps a row and can't be refused"
abbrev pub seek : ℕ → RowPageIndexMemCursor
seek r = cursor_at r false

abbrev pub page_entry : ℕ → ℕ → PageEntry
page_entry r x = record { row_id = record { 0 = r }; page_id = record { 0 = x } }

-- the records of entries i, … of leaf n, k of them
unfoldable pub records : Shape → List ℕ → ℕ → ℕ → ℕ → List PageEntry
records C w n i zero = []
records C w n i (suc k) = page_entry (row C w n i) (child C w n i) ∷ records C w n (i + 1) k

-- an answer, the cursor and the lent list afterwards
pub record Stepped : Type 0 where
  pub answer : Answer
  pub cursor : RowPageIndexMemCursor
  pub list : List PageEntry

-- a step gave a leaf; else it gave none, or was refused
unfoldable pub gives_leaf : Answer → Bool
gives_leaf (result []) = false
gives_leaf (result (x ∷ l)) = true
gives_leaf (refused n d) = false

-- "after the last leaf it is done": no entry is next on its path
unfoldable pub is_last : Limit → Bool
is_last Open = true
is_last (Below r) = false

-- "Next gives start, end and count of the leaf reached for it, then keeps that leaf's end"; "the leaf's entries go into
-- a lent list of row-and-page records; further records stay"
unfoldable pub given : Shape → List ℕ → RowPageIndexMemCursor → List PageEntry → Reached → Stepped
given C w c l (unsound n) = record { answer = refused 2 n; cursor = c; list = l }
given C w c l (leaf n b) =
    record {
      answer = result (start C w n ∷ end C w n ∷ count C w n ∷ []);
      cursor = cursor_at (end C w n) (is_last b);
      list = fill l 0 (records C w n 0 (count C w n));
    }

-- "Next: 13, none if done, path 2." "(next: C)"
unfoldable pub next_leaf_of : Arrangement → List ℕ → RowPageIndexMemCursor → List PageEntry → Stepped
next_leaf_of L w c l =
    let C = store_shape L w in
    let answer : Answer → Stepped = λ a. record { answer = a; cursor = c; list = l } in
    let reached = given C w c l (root_leaf (to_row C w c.row_id.0) C (pool w) w (root w)) in
    let none = pick c.done (answer (result [])) reached in
    when_open w answer (pick (ltb (length l) C.cap) (answer (refused 13 C.cap)) none)
