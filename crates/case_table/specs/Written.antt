-- Words of stores after calls. A create is lent words that are all 7, so a word that no rule names is a 7. With C = 2 node
-- n starts at word 8 + 8n. A chain is given with the P that ends it.
use Rattle.std.specs.Prelude.{ℕ, zero, suc, ◌+◌, List, [], ◌∷◌, ◌++◌}
use Rattle.model.specs.Refusals.{result, refused}
use Rattle.case_table.specs.Run.{Create, Append, Find, Prune, Release, ReleaseEmpty, Words, Part, Chain, Load, Line}
use Rattle.case_table.specs.Table.{line, NONE, free_mark, five, nine, cut_at}

-- words 0 to 7; node n, all its words or the first four; the chain
abbrev pub header : List ℕ → Line
header ws = line (Words 0 8) (result ws)

abbrev pub node : ℕ → List ℕ → Line
node n ws = line (Part n 0 8) (result ws)

abbrev pub first4 : ℕ → List ℕ → Line
first4 n ws = line (Part n 0 4) (result ws)

abbrev pub chain : List ℕ → Line
chain ns = line Chain (result ns)

-- "Words 5 to 7 are written 0 by create"; "Node 0 becomes an empty root leaf at the given start; the chain is 1, 2, …
-- P − 1."; "A free node has height 2^32 − 1 and the next free number, or P, as its count."
abbrev pub created : List Line
created =
    line (Create 2 16 5) (result [])
    ∷ line (Words 0 24)
    (result
    (2 ∷ 16 ∷ 0 ∷ 1 ∷ 15 ∷ 0 ∷ 0 ∷ 0
    ∷ 0 ∷ 0 ∷ 5 ∷ NONE ∷ 7 ∷ 7 ∷ 7 ∷ 7
    ∷ free_mark ∷ 2 ∷ 7 ∷ 7 ∷ 7 ∷ 7 ∷ 7 ∷ 7 ∷ []))
    ∷ line (Words 128 8) (result (free_mark ∷ 16 ∷ 7 ∷ 7 ∷ 7 ∷ 7 ∷ 7 ∷ 7 ∷ []))
    ∷ chain (1 ∷ 2 ∷ 3 ∷ 4 ∷ 5 ∷ 6 ∷ 7 ∷ 8 ∷ 9 ∷ 10 ∷ 11 ∷ 12 ∷ 13 ∷ 14 ∷ 15 ∷ 16 ∷ [])
    ∷ []

-- "Taking a node takes the head"; "the root is copied into the first node taken, that copy's end becomes the new row, and
-- the new path follows, top node first. New branches end at NONE."; pairs past a count stay 7
abbrev pub appended : List Line
appended =
    five
    ++ (header (2 ∷ 16 ∷ 0 ∷ 6 ∷ 10 ∷ 0 ∷ 0 ∷ 0 ∷ [])
    ∷ node 0 (2 ∷ 2 ∷ 0 ∷ NONE ∷ 0 ∷ 3 ∷ 40 ∷ 4 ∷ [])
    ∷ node 1 (0 ∷ 2 ∷ 0 ∷ 20 ∷ 0 ∷ 1 ∷ 10 ∷ 2 ∷ [])
    ∷ node 2 (0 ∷ 2 ∷ 20 ∷ 40 ∷ 20 ∷ 3 ∷ 30 ∷ 4 ∷ [])
    ∷ node 3 (1 ∷ 2 ∷ 0 ∷ 40 ∷ 0 ∷ 1 ∷ 20 ∷ 2 ∷ [])
    ∷ node 4 (1 ∷ 1 ∷ 40 ∷ NONE ∷ 40 ∷ 5 ∷ 7 ∷ 7 ∷ [])
    ∷ node 5 (0 ∷ 1 ∷ 40 ∷ 50 ∷ 40 ∷ 5 ∷ 7 ∷ 7 ∷ [])
    ∷ chain (6 ∷ 7 ∷ 8 ∷ 9 ∷ 10 ∷ 11 ∷ 12 ∷ 13 ∷ 14 ∷ 15 ∷ 16 ∷ [])
    ∷ [])

-- a root of three pairs: the copy has all of them, and the third slot of the root keeps what it held
abbrev pub split : List Line
split =
    line (Create 3 3 0) (result [])
    ∷ line (Append 10 1) (result (0 ∷ 10 ∷ 0 ∷ []))
    ∷ line (Append 10 2) (result (10 ∷ 20 ∷ 0 ∷ []))
    ∷ line (Append 10 3) (result (20 ∷ 30 ∷ 0 ∷ []))
    ∷ line (Append 10 4) (result (30 ∷ 40 ∷ 2 ∷ []))
    ∷ line (Part 0 0 10) (result (1 ∷ 2 ∷ 0 ∷ NONE ∷ 0 ∷ 1 ∷ 30 ∷ 2 ∷ 20 ∷ 3 ∷ []))
    ∷ line (Part 1 0 10) (result (0 ∷ 3 ∷ 0 ∷ 30 ∷ 0 ∷ 1 ∷ 10 ∷ 2 ∷ 20 ∷ 3 ∷ []))
    ∷ line (Part 2 0 10) (result (0 ∷ 1 ∷ 30 ∷ 40 ∷ 30 ∷ 4 ∷ 7 ∷ 7 ∷ 7 ∷ 7 ∷ []))
    ∷ []

-- "each node that stays but loses rows moves its remaining entries to the front and takes the end as its start and first
-- row"; "slots past a node's count keep what they held"; "freeing puts it at the head and writes its first two words only"
abbrev pub trimmed : List Line
trimmed =
    cut_at 30 (1 ∷ 2 ∷ 3 ∷ []) (3 ∷ 1 ∷ 0 ∷ [])
    ++ (header (2 ∷ 16 ∷ 0 ∷ 1 ∷ 11 ∷ 0 ∷ 0 ∷ 0 ∷ [])
    ∷ node 0 (2 ∷ 2 ∷ 30 ∷ NONE ∷ 30 ∷ 3 ∷ 40 ∷ 4 ∷ [])
    ∷ node 1 (free_mark ∷ 6 ∷ 0 ∷ 20 ∷ 0 ∷ 1 ∷ 10 ∷ 2 ∷ [])
    ∷ node 2 (0 ∷ 1 ∷ 30 ∷ 40 ∷ 30 ∷ 4 ∷ 30 ∷ 4 ∷ [])
    ∷ node 3 (1 ∷ 1 ∷ 30 ∷ 40 ∷ 30 ∷ 2 ∷ 20 ∷ 2 ∷ [])
    ∷ chain (1 ∷ 6 ∷ 7 ∷ 8 ∷ 9 ∷ 10 ∷ 11 ∷ 12 ∷ 13 ∷ 14 ∷ 15 ∷ 16 ∷ [])
    ∷ [])

-- "While the root is a branch of one entry, its child is copied into it."; "Copying a node copies all its words": the second
-- pair of the root is that of node 5. "the nodes whose rows all went, and those copied into the root, are freed, children
-- before parents, left to right as in the former tree": 1, 2, 3, then 5 before 4
abbrev pub collapsed : List Line
collapsed =
    cut_at 40 (1 ∷ 2 ∷ 3 ∷ 4 ∷ []) (4 ∷ 5 ∷ 2 ∷ [])
    ++ (header (2 ∷ 16 ∷ 0 ∷ 4 ∷ 15 ∷ 0 ∷ 0 ∷ 0 ∷ [])
    ∷ node 0 (0 ∷ 1 ∷ 40 ∷ 50 ∷ 40 ∷ 5 ∷ 7 ∷ 7 ∷ [])
    ∷ first4 1 (free_mark ∷ 6 ∷ 0 ∷ 20 ∷ [])
    ∷ first4 2 (free_mark ∷ 1 ∷ 20 ∷ 40 ∷ [])
    ∷ first4 3 (free_mark ∷ 2 ∷ 0 ∷ 40 ∷ [])
    ∷ first4 5 (free_mark ∷ 3 ∷ 40 ∷ 50 ∷ [])
    ∷ first4 4 (free_mark ∷ 5 ∷ 40 ∷ NONE ∷ [])
    ∷ chain (4 ∷ 5 ∷ 3 ∷ 2 ∷ 1 ∷ 6 ∷ 7 ∷ 8 ∷ 9 ∷ 10 ∷ 11 ∷ 12 ∷ 13 ∷ 14 ∷ 15 ∷ 16 ∷ [])
    ∷ [])

-- three levels: 1, 2, 3, 5, 6, 4, 7 went; 8 over 9 over 10 are copied, and freed 10, 9, 8
abbrev pub collapsed_nine : List Line
collapsed_nine =
    nine
    ++ (line (Prune 0 80 (1 ∷ 2 ∷ 3 ∷ 4 ∷ 5 ∷ 6 ∷ 7 ∷ 8 ∷ [])) (result (8 ∷ 10 ∷ 3 ∷ []))
    ∷ header (2 ∷ 16 ∷ 0 ∷ 8 ∷ 15 ∷ 0 ∷ 0 ∷ 0 ∷ [])
    ∷ node 0 (0 ∷ 1 ∷ 80 ∷ 90 ∷ 80 ∷ 9 ∷ 7 ∷ 7 ∷ [])
    ∷ first4 7 (free_mark ∷ 4 ∷ 0 ∷ 80 ∷ [])
    ∷ first4 10 (free_mark ∷ 7 ∷ 80 ∷ 90 ∷ [])
    ∷ first4 9 (free_mark ∷ 10 ∷ 80 ∷ NONE ∷ [])
    ∷ first4 8 (free_mark ∷ 9 ∷ 80 ∷ NONE ∷ [])
    ∷ chain (8 ∷ 9 ∷ 10 ∷ 7 ∷ 4 ∷ 6 ∷ 5 ∷ 3 ∷ 2 ∷ 1 ∷ 11 ∷ 12 ∷ 13 ∷ 14 ∷ 15 ∷ 16 ∷ [])
    ∷ [])

-- "If nothing is left, the root is an empty leaf starting at the end": its pairs keep what they held
abbrev pub reset : List Line
reset =
    cut_at 50 (1 ∷ 2 ∷ 3 ∷ 4 ∷ 5 ∷ []) (5 ∷ 5 ∷ 0 ∷ [])
    ++ (header (2 ∷ 16 ∷ 0 ∷ 4 ∷ 15 ∷ 0 ∷ 0 ∷ 0 ∷ [])
    ∷ node 0 (0 ∷ 0 ∷ 50 ∷ NONE ∷ 0 ∷ 3 ∷ 40 ∷ 4 ∷ [])
    ∷ chain (4 ∷ 5 ∷ 3 ∷ 2 ∷ 1 ∷ 6 ∷ 7 ∷ 8 ∷ 9 ∷ 10 ∷ 11 ∷ 12 ∷ 13 ∷ 14 ∷ 15 ∷ 16 ∷ [])
    ∷ [])

-- "nodes are freed children first, left to right; the root word becomes P": 1, 2, 3, 5, 4, 0
abbrev pub released : List Line
released =
    five
    ++ (line (Release 0) (result (6 ∷ 5 ∷ []))
    ∷ header (2 ∷ 16 ∷ 16 ∷ 0 ∷ 16 ∷ 0 ∷ 0 ∷ 0 ∷ [])
    ∷ node 0 (free_mark ∷ 4 ∷ 0 ∷ NONE ∷ 0 ∷ 3 ∷ 40 ∷ 4 ∷ [])
    ∷ first4 1 (free_mark ∷ 6 ∷ 0 ∷ 20 ∷ [])
    ∷ first4 2 (free_mark ∷ 1 ∷ 20 ∷ 40 ∷ [])
    ∷ first4 3 (free_mark ∷ 2 ∷ 0 ∷ 40 ∷ [])
    ∷ first4 5 (free_mark ∷ 3 ∷ 40 ∷ 50 ∷ [])
    ∷ first4 4 (free_mark ∷ 5 ∷ 40 ∷ NONE ∷ [])
    ∷ chain (0 ∷ 4 ∷ 5 ∷ 3 ∷ 2 ∷ 1 ∷ 6 ∷ 7 ∷ 8 ∷ 9 ∷ 10 ∷ 11 ∷ 12 ∷ 13 ∷ 14 ∷ 15 ∷ 16 ∷ [])
    ∷ line (Create 2 16 7) (result []) ∷ line ReleaseEmpty (result (1 ∷ 0 ∷ []))
    ∷ header (2 ∷ 16 ∷ 16 ∷ 0 ∷ 16 ∷ 0 ∷ 0 ∷ 0 ∷ [])
    ∷ node 0 (free_mark ∷ 1 ∷ 7 ∷ NONE ∷ 7 ∷ 7 ∷ 7 ∷ 7 ∷ [])
    ∷ [])

-- the words of full nodes i, i + 1, …, each of which leads to the next one by its second entry, from height h down
unfoldable pub edge : ℕ → ℕ → List ℕ
edge i zero = 0 ∷ 2 ∷ i ∷ 100 ∷ i ∷ 8 ∷ (i + 1) ∷ 9 ∷ []
edge i (suc h) = suc h ∷ 2 ∷ i ∷ NONE ∷ i ∷ 0 ∷ (i + 1) ∷ (i + 1) ∷ edge (i + 1) h

-- a store of these nodes alone: P is h + 1, the root 0, and no node is free
unfoldable pub tall : ℕ → List ℕ
tall h = 2 ∷ (h + 1) ∷ 0 ∷ (h + 1) ∷ 0 ∷ 0 ∷ 0 ∷ 0 ∷ edge 0 h

-- "(root: at most 31)"; "6, 0: root split at height 31", which comes before 5; below it "height + 2 where all are full"
abbrev pub heights : List Line
heights =
    line (Load (tall 30)) (result []) ∷ line (Find 50) (result (9 ∷ [])) ∷ line (Append 1 1) (refused 5 32)
    ∷ line (Load (tall 31)) (result []) ∷ line (Find 50) (result (9 ∷ [])) ∷ line (Append 1 1) (refused 6 0)
    ∷ line (Load (tall 32)) (result []) ∷ line (Find 50) (refused 2 0) ∷ line (Append 1 1) (refused 2 0)
    ∷ []

abbrev pub written : List Line
written = created ++ appended ++ split ++ trimmed ++ collapsed ++ collapsed_nine ++ reset ++ released ++ heights
