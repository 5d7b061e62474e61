-- 01, "Node words": the node test, and the tree that any words hold, by its height.
use Rattle.std.specs.Prelude.{ℕ, zero, suc, ◌+◌, ◌<◌, List, [], ◌∷◌, ◌++◌, Bool, true, ◌&&◌, ◌||◌, length, T, leb, ltb, eqb}
use Rattle.model.specs.Words.{Shape, height, count, start, end, row, child, NONE, row_limit, max_height}

-- a node; a pair is a row and what its number leads to
pub record Node (K : Type 0) : Type 0 where
  pub number : ℕ
  pub height : ℕ
  pub start : ℕ
  pub end : ℕ
  pub pairs : List (ℕ × K)

-- pairs i, i + 1, … of node n, k of them, each with f of its number
unfoldable pub pairs_from : {K : Type 0} → Shape → List ℕ → (ℕ → K) → ℕ → ℕ → ℕ → List (ℕ × K)
pairs_from C w f n i zero = []
pairs_from C w f n i (suc k) = (row C w n i, f (child C w n i)) ∷ pairs_from C w f n (i + 1) k

abbrev pub node_with : {K : Type 0} → Shape → List ℕ → (ℕ → K) → ℕ → Node K
node_with C w f n =
    record { number = n; height = height C w n; start = start C w n; end = end C w n; pairs = pairs_from C w f n 0 (count C w n) }

-- node n by itself: its pairs hold numbers
abbrev pub node_at : Shape → List ℕ → ℕ → Node ℕ
node_at C w n = node_with C w (λ (x : ℕ). x) n

-- The node test ------------------------------------------------------------------------------------------

-- "the row of the next entry on its path (in the nearest ancestor having one), if any"
pub data Limit : Type 0 where
  Open : Limit
  Below : ℕ → Limit

-- "its rows rise strictly"
unfoldable pub rising : {K : Type 0} → List (ℕ × K) → Bool
rising [] = true
rising (p ∷ []) = true
rising (p ∷ q ∷ ps) = ltb p.0 q.0 && rising (q ∷ ps)

unfoldable pub first_row : {K : Type 0} → List (ℕ × K) → ℕ
first_row [] = 0
first_row (p ∷ ps) = p.0

unfoldable pub last_row : {K : Type 0} → List (ℕ × K) → ℕ
last_row [] = 0
last_row (p ∷ []) = p.0
last_row (p ∷ q ∷ ps) = last_row (q ∷ ps)

-- "equals the row of the next entry on its path, if any"
unfoldable pub meets : Limit → ℕ → Bool
meets Open e = true
meets (Below r) e = eqb e r

-- "A leaf's end is above its last row, at most 2^62, and equals the row of the next entry on its path"
-- "A branch's end is NONE or above its last row."
unfoldable pub end_sound : ℕ → Limit → ℕ → ℕ → Bool
end_sound zero b e l = ltb l e && leb e row_limit && meets b e
end_sound (suc h) b e l = eqb e NONE || ltb l e

-- "A node read is sound when its number is below P" (tested where it is followed), "its height is one less than its
-- parent's", that is h, "its count is 1 to C, its rows rise strictly, its start is its first row and equals the row of
-- the entry leading to it", that is r
unfoldable pub sound : {K : Type 0} → Shape → ℕ → Node K → ℕ → Limit → Bool
sound C h t r b =
    eqb t.height h && leb 1 (length t.pairs) && leb (length t.pairs) C.cap && rising t.pairs
    && eqb t.start (first_row t.pairs) && eqb t.start r && end_sound h b t.end (last_row t.pairs)

-- "(a root leaf may have 0)", "(an empty root leaf: at most 2^62)", "an empty root leaf ends at NONE"
unfoldable pub empty_root : Shape → List ℕ → ℕ → Bool
empty_root C w n =
    eqb (height C w n) 0 && eqb (count C w n) 0 && leb (start C w n) row_limit && eqb (end C w n) NONE

-- "(root: at most 31)"; no entry leads to the root, and none is next
unfoldable pub root_sound : Shape → List ℕ → ℕ → Bool
root_sound C w n =
    empty_root C w n || (leb (height C w n) max_height && sound C (height C w n) (node_at C w n) (start C w n) Open)

-- The tree -----------------------------------------------------------------------------------------------

-- what a pair leads to: at level 0 a page, at level h + 1 a node of height h
abbrev pub Level : ℕ → Type 0
Level zero = ℕ
Level (suc h) = Node (Level h)

unfoldable pub level : Shape → List ℕ → (h : ℕ) → ℕ → Level h
level C w zero x = x
level C w (suc h) n = node_with C w (level C w h) n

-- what is next for a pair: the pair after it, or what is next for the node
unfoldable pub next : {K : Type 0} → List (ℕ × K) → Limit → Limit
next [] b = b
next (p ∷ ps) b = Below p.0

-- what is next for the last pair of a node: in a leaf the leaf's end, else what is next for the node
unfoldable pub last : ℕ → ℕ → Limit → Limit
last zero e b = Below e
last (suc h) e b = b

-- f of each pair, with its row and what is next, joined from left to right
unfoldable pub over_pairs : {K A : Type 0} → (K → ℕ → Limit → List A) → List (ℕ × K) → Limit → List A
over_pairs f [] b = []
over_pairs f (p ∷ ps) b = f p.1 p.0 (next ps b) ++ over_pairs f ps b

-- Q of each pair, with its row and what is next
unfoldable pub all_pairs : {K : Type 0} → (K → ℕ → Limit → Type 0) → List (ℕ × K) → Limit → Type 0
all_pairs Q [] b = Unit {0}
all_pairs Q (p ∷ ps) b = Q p.1 p.0 (next ps b) × all_pairs Q ps b

unfoldable pub Under : ℕ → Limit → Type 0
Under r Open = Unit {0}
Under r (Below e) = r < e

-- "all nodes from the root are sound"; a page stands below what is next
unfoldable pub AllSound : Shape → ℕ → (h : ℕ) → Level h → ℕ → Limit → Type 0
AllSound C P zero x r b = Under r b
AllSound C P (suc h) t r b =
    T (ltb t.number P) × T (sound C h t r b) × all_pairs (AllSound C P h) t.pairs (last h t.end b)
