-- The leaves of a tree in order, and a whole walk: steps with no change of the store between them.
use Rattle.std.specs.Prelude.{ℕ, zero, suc, ◌<◌, ◌≤◌, List, [], ◌∷◌, ◌++◌, map, ◌≡◌, ◌⊎◌, length, take}
use Rattle.model.specs.Words.{store_shape, lent, root, height, start}
use Rattle.model.specs.Tree.{Limit, Open, Level, over_pairs}
use Rattle.model.specs.Reading.{root_tree}
use Rattle.model.specs.Refusals.{result}
use Rattle.model.specs.Ledger.{Range, Ledger, end_from, walk_from}
use Rattle.model.specs.LeafWalk.{seek, next_leaf_of}
use Rattle.model.specs.declared.node.PageEntry.{PageEntry}
use Rattle.model.specs.declared.cursor.RowPageIndexMemCursor.{RowPageIndexMemCursor}

-- a leaf, the row of the entry leading to it, what is next for it, and its pairs
pub record LeafAt : Type 0 where
  pub number : ℕ
  pub low : ℕ
  pub next : Limit
  pub pairs : List (ℕ × ℕ)

unfoldable pub leaves_of : (h : ℕ) → Level (suc h) → ℕ → Limit → List LeafAt
leaves_of zero t r b = record { number = t.number; low = r; next = b; pairs = t.pairs } ∷ []
leaves_of (suc h) t r b = over_pairs (leaves_of h) t.pairs b

abbrev pub store_leaves : List ℕ → List LeafAt
store_leaves w = let C = store_shape lent w in leaves_of (height C w (root w)) (root_tree C w (root w)) (start C w (root w)) Open

-- how many there are
abbrev pub leaf_count : List ℕ → ℕ
leaf_count w = length (store_leaves w)

-- the first k records of a list, as a caller reads them
abbrev pub pair_of : PageEntry → ℕ × ℕ
pair_of e = (e.row_id.0, e.page_id.0)

abbrev pub first_pairs : ℕ → List PageEntry → List (ℕ × ℕ)
first_pairs k l = map pair_of (take k l)

-- From this cursor and this list, n steps give a leaf each, the one after them gives none, and the records of the
-- leaves, joined, are these pairs.
pub data Gives (w : List ℕ) : RowPageIndexMemCursor → List PageEntry → List (ℕ × ℕ) → ℕ → Type 0 where
  ended : (c : RowPageIndexMemCursor) (l : List PageEntry) → next_leaf_of lent w c l ≡ record { answer = result []; cursor = c; list = l } → Gives w c l [] 0
  one : (c : RowPageIndexMemCursor) (l : List PageEntry) (s e k : ℕ) (ps : List (ℕ × ℕ)) (n : ℕ) → (next_leaf_of lent w c l).answer ≡ result (s ∷ e ∷ k ∷ [])
      → Gives w (next_leaf_of lent w c l).cursor (next_leaf_of lent w c l).list ps n → Gives w c l (first_pairs k (next_leaf_of lent w c l).list ++ ps) (suc n)

-- From any row: the leaf reached begins where some of the ledger's ranges end, not above the row unless it is the
-- first leaf, and ends above the row unless it is the last; the records are those of the ranges from there on
pub record From (w : List ℕ) (l : Ledger) (q : ℕ) (list : List PageEntry) : Type 0 where
  pub before : List Range
  pub after : List Range
  pub is : l.ranges ≡ before ++ after
  pub end : ℕ
  pub many : ℕ
  pub answer : (next_leaf_of lent w (seek q) list).answer ≡ result (end_from l.start before ∷ end ∷ many ∷ [])
  pub steps : ℕ
  pub gives : Gives w (seek q) list (walk_from (end_from l.start before) after) (suc steps)
  pub low : (before ≡ []) ⊎ (end_from l.start before ≤ q)
  pub high : (steps ≡ 0) ⊎ (q < end)
