-- 01, "Node words" and "Refusals": what is read, in which order. A node comes first, then its children left to right,
-- each with all below it.
use Rattle.std.specs.Prelude.{ℕ, zero, suc, ◌+◌, ◌-◌, List, [], ◌∷◌, ◌++◌, map, Bool, true, ◌&&◌, ◌||◌, leb, ltb, eqb}
use Rattle.model.specs.Words.{Shape, pick, height, count, start, row, child, NONE, max_height}
use Rattle.model.specs.Tree.{Node, node_at, Limit, Open, Below, sound, empty_root, Level, level, last, over_pairs}

-- The whole tree -----------------------------------------------------------------------------------------

pub data Visit : Type 0 where
  Enter : ℕ → Visit
  Leave : ℕ → Visit
  Bad : ℕ → Visit

-- "each branch's end is NONE or, off the right edge, the end of its last leaf": that end equals what is next
unfoldable pub end_fits : ℕ → Limit → ℕ → Bool
end_fits zero b e = true
end_fits (suc h) Open e = eqb e NONE
end_fits (suc h) (Below r) e = eqb e NONE || eqb e r

-- a node passes: it is sound and, where ends are looked at too, its end fits
unfoldable pub passes : {K : Type 0} → Bool → Shape → ℕ → Node K → ℕ → Limit → Bool
passes ends C h t r b = sound C h t r b && pick ends (end_fits h b t.end) true

-- The visits of what node m leads to. Reading goes on beside an unsound node, and not below it; "for a child number
-- not below P, the node that holds it" is named, at the child's place.
unfoldable pub visits : Bool → Shape → ℕ → (h : ℕ) → ℕ → Level h → ℕ → Limit → List Visit
visits ends C P zero m x r b = []
visits ends C P (suc h) m t r b =
    let below = over_pairs (visits ends C P h t.number) t.pairs (last h t.end b) in
    let whole = Enter t.number ∷ (below ++ (Leave t.number ∷ [])) in
    pick (ltb t.number P) (pick (passes ends C h t r b) whole (Bad t.number ∷ [])) (Bad m ∷ [])

-- those from root n
unfoldable pub root_visits : Bool → Shape → ℕ → List ℕ → ℕ → List Visit
root_visits ends C P w n =
    let h = height C w n in
    let tree = visits ends C P (suc h) n (level C w (suc h) n) (start C w n) Open in
    pick (empty_root C w n) (Enter n ∷ Leave n ∷ []) (pick (leb h max_height) tree (Bad n ∷ []))

-- "an unsound node read": the first one
pub data Fault : Type 0 where
  clear : Fault
  at : ℕ → Fault

unfoldable pub first_bad : List Visit → Fault
first_bad [] = clear
first_bad (Enter n ∷ vs) = first_bad vs
first_bad (Leave n ∷ vs) = first_bad vs
first_bad (Bad n ∷ vs) = at n

abbrev pub unless_bad : {A : Type 0} → Fault → (ℕ → A) → A → A
unless_bad clear f a = a
unless_bad (at n) f a = f n

-- an entry: its row, where it ends, its page
pub record Entry : Type 0 where
  pub low : ℕ
  pub high : Limit
  pub page : ℕ

-- entries from left to right
unfoldable pub entries : (h : ℕ) → Level h → ℕ → Limit → List Entry
entries zero x r b = record { low = r; high = b; page = x } ∷ []
entries (suc h) t r b = over_pairs (entries h) t.pairs (last h t.end b)

abbrev pub page_ids : List Entry → List ℕ
page_ids es = map (λ (e : Entry). e.page) es

-- nodes, "children before parents, left to right"
unfoldable pub in_pairs : {K A : Type 0} → (K → List A) → List (ℕ × K) → List A
in_pairs f [] = []
in_pairs f (p ∷ ps) = f p.1 ++ in_pairs f ps

unfoldable pub nodes : (h : ℕ) → Level h → List ℕ
nodes zero x = []
nodes (suc h) t = in_pairs (nodes h) t.pairs ++ (t.number ∷ [])

-- how often n stands in a list
unfoldable pub occ : ℕ → List ℕ → ℕ
occ n [] = 0
occ n (m ∷ ms) = pick (eqb n m) 1 0 + occ n ms

-- the tree from root n, its entries and its nodes
abbrev pub root_tree : (C : Shape) (w : List ℕ) (n : ℕ) → Level (suc (height C w n))
root_tree C w n = level C w (suc (height C w n)) n

abbrev pub root_entries : Shape → List ℕ → ℕ → List Entry
root_entries C w n = entries (suc (height C w n)) (root_tree C w n) (start C w n) Open

abbrev pub root_nodes : Shape → List ℕ → ℕ → List ℕ
root_nodes C w n = nodes (suc (height C w n)) (root_tree C w n)

-- One path -----------------------------------------------------------------------------------------------

-- the first unsound node of a path, or the leaf reached and what is next for it
pub data Reached : Type 0 where
  unsound : ℕ → Reached
  leaf : ℕ → Limit → Reached

-- what is next for entry i of node n
unfoldable pub next_row : Shape → List ℕ → ℕ → ℕ → Limit → Limit
next_row C w n i b = pick (ltb (i + 1) (count C w n)) (Below (row C w n (i + 1))) b

-- node n, which node m leads to, then what is below it
unfoldable pub checked : Shape → ℕ → List ℕ → ℕ → ℕ → ℕ → ℕ → Limit → Reached → Reached
checked C P w h m n r b below =
    pick (ltb n P) (pick (sound C h (node_at C w n) r b) below (unsound n)) (unsound m)

-- from node n of height h, in each branch by the entry that f names
unfoldable pub descend : (ℕ → ℕ) → Shape → ℕ → List ℕ → ℕ → ℕ → ℕ → ℕ → Limit → Reached
descend f C P w zero m n r b = checked C P w 0 m n r b (leaf n b)
descend f C P w (suc h) m n r b =
    let i = f n in
    checked C P w (suc h) m n r b (descend f C P w h n (child C w n i) (row C w n i) (next_row C w n i b))

-- from root n
unfoldable pub root_leaf : (ℕ → ℕ) → Shape → ℕ → List ℕ → ℕ → Reached
root_leaf f C P w n =
    let h = height C w n in
    let path = descend f C P w h n n (start C w n) Open in
    pick (empty_root C w n) (leaf n Open) (pick (leb h max_height) path (unsound n))

-- "the last entry whose row is not above the sought one", of the first k; 0 where there is none
unfoldable pub last_not_above : Shape → List ℕ → ℕ → ℕ → ℕ → ℕ
last_not_above C w q n zero = 0
last_not_above C w q n (suc k) = pick (leb (row C w n k) q) k (last_not_above C w q n k)

-- towards row q
abbrev pub to_row : Shape → List ℕ → ℕ → ℕ → ℕ
to_row C w q n = last_not_above C w q n (count C w n)

-- along the right edge
abbrev pub to_right : Shape → List ℕ → ℕ → ℕ
to_right C w n = count C w n - 1
