-- 01, "Lookup (`try_find_row`)": "In each branch, the last entry whose row is not above the sought one; in the leaf
-- likewise, and found only if the row is below the leaf's end. Otherwise none."
use Rattle.std.specs.Prelude.{ℕ, List, [], ◌∷◌, Bool, true, ◌&&◌, leb, ltb}
use Rattle.model.specs.Words.{store_shape, Arrangement, Shape, pick, pool, root, count, start, end, child}
use Rattle.model.specs.Tree.{Limit, Open, Below, root_sound}
use Rattle.model.specs.Reading.{Entry, Reached, unsound, leaf, root_leaf, to_row}
use Rattle.model.specs.Refusals.{Answer, result, refused, when_open}

unfoldable pub found_in : Shape → List ℕ → ℕ → Reached → Answer
found_in C w q (unsound n) = refused 2 n
found_in C w q (leaf n b) =
    pick (ltb 0 (count C w n) && ltb q (end C w n)) (result (child C w n (to_row C w q n) ∷ [])) (result [])

-- "Lookup: path 2." Below the root's start no entry qualifies, and the path is the root.
unfoldable pub find_in_tree : Shape → ℕ → List ℕ → ℕ → ℕ → Answer
find_in_tree C P w n q =
    let inside = found_in C w q (root_leaf (to_row C w q) C P w n) in
    let outside = pick (root_sound C w n) (result []) (refused 2 n) in
    pick (ltb q (start C w n)) outside inside

unfoldable pub try_find_row : Arrangement → List ℕ → ℕ → Answer
try_find_row L w q = when_open w (λ (a : Answer). a) (find_in_tree (store_shape L w) (pool w) w (root w) q)

-- The same by the entries alone: the page of the entry that holds row q, or none --------------------------

unfoldable pub under : ℕ → Limit → Bool
under q Open = true
under q (Below e) = ltb q e

unfoldable pub entry_find : List Entry → ℕ → Answer
entry_find [] q = result []
entry_find (e ∷ es) q = pick (leb e.low q && under q e.high) (result (e.page ∷ [])) (entry_find es q)
