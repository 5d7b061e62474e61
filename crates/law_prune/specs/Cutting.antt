-- What a reader of the laws of prune needs beyond 01's own definitions: the tree after collapsing, and the entries from
-- the cut on.
use Rattle.std.specs.Prelude.{ℕ, zero, suc, List, [], ◌∷◌, ◌≡◌, ltb}
use Rattle.model.specs.Words.{pick, NONE}
use Rattle.model.specs.Tree.{Node, Limit, Level}
use Rattle.model.specs.Reading.{Entry, entries, in_pairs, nodes}
use Rattle.model.specs.Cut.{Rest, gone, stays, cut, went_pairs, went}

-- a tree of any height
abbrev pub Tree : Type 0
Tree = (h : ℕ) × Level (suc h)

abbrev pub tree_entries : Tree → ℕ → Limit → List Entry
tree_entries t r b = entries (suc t.0) t.1 r b

-- its nodes without the root
abbrev pub below_root : Tree → List ℕ
below_root t = in_pairs (nodes t.0) t.1.pairs

abbrev pub tree_nodes : Tree → List ℕ
tree_nodes t = nodes (suc t.0) t.1

-- the same words in node n
abbrev pub named : {K : Type 0} → ℕ → Node K → Node K
named n t = record { number = n; height = t.height; start = t.start; end = t.end; pairs = t.pairs }

-- the nodes below the root whose rows all go
abbrev pub gone_nodes : (h : ℕ) → ℕ → Level (suc h) → List ℕ
gone_nodes h e t = went_pairs (cut h e) (went h e) t.pairs

-- "If nothing is left, the root is an empty leaf starting at the end": the root is node n
abbrev pub reset_tree : ℕ → ℕ → Tree
reset_tree n e = (0, record { number = n; height = 0; start = e; end = NONE; pairs = [] })

-- f of the only pair, or a
unfoldable pub only_or : {K A : Type 0} → (K → A) → A → List (ℕ × K) → A
only_or f a [] = a
only_or f a (p ∷ []) = f p.1
only_or f a (p ∷ q ∷ ps) = a

-- "While the root is a branch of one entry, its child is copied into it": the root is node n
unfoldable pub collapse : ℕ → (h : ℕ) → Level (suc h) → Tree
collapse n zero t = (zero, named n t)
collapse n (suc h) t = only_or (collapse n h) (suc h, named n t) t.pairs

-- the tree that a cut at e leaves in node n, by what stays of the former one
unfoldable pub left_tree : ℕ → (h : ℕ) → ℕ → Rest (Level (suc h)) → Tree
left_tree n h e gone = reset_tree n e
left_tree n h e (stays t) = collapse n h t

-- the nodes copied, the top first
unfoldable pub copied_nodes : (h : ℕ) → Level (suc h) → List ℕ
copied_nodes zero t = []
copied_nodes (suc h) t = only_or (λ x. x.number ∷ copied_nodes h x) [] t.pairs

-- the entries from row e on
unfoldable pub drop_to : ℕ → List Entry → List Entry
drop_to e [] = []
drop_to e (a ∷ es) = pick (ltb a.low e) (drop_to e es) (a ∷ es)

-- e is the row of the first entry, if there is one
unfoldable pub Lands : ℕ → List Entry → Type 0
Lands e [] = Unit {0}
Lands e (a ∷ es) = a.low ≡ e
