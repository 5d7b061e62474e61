-- 01, "Cuts and edges: C = 2, start 0, page k holds rows 10(k − 1) to 10k − 1".
use Rattle.std.specs.Prelude.{ℕ, ◌+◌, List, [], ◌∷◌, ◌++◌}
use Rattle.model.specs.Refusals.{Answer, result, refused}
use Rattle.case_table.specs.Run.{CaseCall, Create, Append, Find, Prune, Walk, Check, Shape, Line}

abbrev pub line : CaseCall → Answer → Line
line c a = (c, a ∷ [])

-- 01's numbers, as numbers ---------------------------------------------------------------------------------

-- "NONE is 2^64 − 1."
abbrev pub NONE : ℕ
NONE = 18446744073709551615

-- "Rows and ends are at most 2^62"
abbrev pub row_limit : ℕ
row_limit = 4611686018427387904

-- "A free node has height 2^32 − 1"
abbrev pub free_mark : ℕ
free_mark = 4294967295

-- The cases ------------------------------------------------------------------------------------------------

-- "Third append takes 2, fifth 3 (height 2, left branch ends 40, right at NONE)"
abbrev pub five : List Line
five =
    line (Create 2 16 0) (result [])
    ∷ line (Append 10 1) (result (0 ∷ 10 ∷ 0 ∷ []))
    ∷ line (Append 10 2) (result (10 ∷ 20 ∷ 0 ∷ []))
    ∷ line (Append 10 3) (result (20 ∷ 30 ∷ 2 ∷ []))
    ∷ line (Append 10 4) (result (30 ∷ 40 ∷ 0 ∷ []))
    ∷ line (Append 10 5) (result (40 ∷ 50 ∷ 3 ∷ []))
    ∷ line Shape
    (result
    (2 ∷ 2 ∷ 0 ∷ NONE
    ∷ 1 ∷ 2 ∷ 0 ∷ 40 ∷ 0 ∷ 2 ∷ 0 ∷ 20 ∷ 0 ∷ 2 ∷ 20 ∷ 40
    ∷ 1 ∷ 1 ∷ 40 ∷ NONE ∷ 0 ∷ 1 ∷ 40 ∷ 50 ∷ []))
    ∷ []

-- "seventh 1, ninth 4 (height 3, 11 nodes)"; "After nine: find 9 is 1, 10 is 2, 89 is 9, 90 none. Walk from 0: starts
-- 0, 20, 40, 60, 80"
abbrev pub nine : List Line
nine =
    five
    ++ (line (Append 10 6) (result (50 ∷ 60 ∷ 0 ∷ []))
    ∷ line (Append 10 7) (result (60 ∷ 70 ∷ 1 ∷ []))
    ∷ line (Append 10 8) (result (70 ∷ 80 ∷ 0 ∷ []))
    ∷ line (Append 10 9) (result (80 ∷ 90 ∷ 4 ∷ []))
    ∷ line Check (result (9 ∷ 11 ∷ 5 ∷ []))
    ∷ line Shape
    (result
    (3 ∷ 2 ∷ 0 ∷ NONE
    ∷ 2 ∷ 2 ∷ 0 ∷ 80
    ∷ 1 ∷ 2 ∷ 0 ∷ 40 ∷ 0 ∷ 2 ∷ 0 ∷ 20 ∷ 0 ∷ 2 ∷ 20 ∷ 40
    ∷ 1 ∷ 2 ∷ 40 ∷ NONE ∷ 0 ∷ 2 ∷ 40 ∷ 60 ∷ 0 ∷ 2 ∷ 60 ∷ 80
    ∷ 2 ∷ 1 ∷ 80 ∷ NONE ∷ 1 ∷ 1 ∷ 80 ∷ NONE ∷ 0 ∷ 1 ∷ 80 ∷ 90 ∷ []))
    ∷ line (Find 9) (result (1 ∷ []))
    ∷ line (Find 10) (result (2 ∷ []))
    ∷ line (Find 89) (result (9 ∷ []))
    ∷ line (Find 90) (result [])
    ∷ (
      Walk 0,
      result (0 ∷ 20 ∷ 2 ∷ []) ∷ result (20 ∷ 40 ∷ 2 ∷ []) ∷ result (40 ∷ 60 ∷ 2 ∷ []) ∷ result (60 ∷ 80 ∷ 2 ∷ [])
          ∷ result (80 ∷ 90 ∷ 1 ∷ []) ∷ result [] ∷ [],
    )
    ∷ [])

-- "After five, prune to 20: 2 1 0; 30: 3 1 0; 40: 4 5 2; 50: 5 5 0, then find 50 is none."
abbrev pub cut_at : ℕ → List ℕ → List ℕ → List Line
cut_at e ids values = five ++ (line (Prune 0 e ids) (result values) ∷ [])

-- "After five: [1, 3] to 20 is 9, 1; [1, 2, 3] to 25 is 10, 2; [1] to 20 is 10, 1; six ids to 60 is 11, 5; from row 10
-- is 8, 0."
abbrev pub refused_cuts : List Line
refused_cuts =
    five
    ++ (line (Prune 0 20 (1 ∷ 3 ∷ [])) (refused 9 1)
    ∷ line (Prune 0 25 (1 ∷ 2 ∷ 3 ∷ [])) (refused 10 2)
    ∷ line (Prune 0 20 (1 ∷ [])) (refused 10 1)
    ∷ line (Prune 0 60 (1 ∷ 2 ∷ 3 ∷ 4 ∷ 5 ∷ 6 ∷ [])) (refused 11 5)
    ∷ line (Prune 10 20 (2 ∷ [])) (refused 8 0)
    ∷ [])

-- "P = 2: third append is 5, 2. Count 2^62 fits an empty store; one more row is 4."
abbrev pub limits : List Line
limits =
    line (Create 2 2 0) (result [])
    ∷ line (Append 10 1) (result (0 ∷ 10 ∷ 0 ∷ []))
    ∷ line (Append 10 2) (result (10 ∷ 20 ∷ 0 ∷ []))
    ∷ line (Append 10 3) (refused 5 2)
    ∷ line (Create 2 16 0) (result [])
    ∷ line (Append (row_limit + 1) 1) (refused 4 0)
    ∷ line (Append row_limit 1) (result (0 ∷ row_limit ∷ 0 ∷ []))
    ∷ line (Append 1 2) (refused 4 0)
    -- "create: start above 2^62"
    ∷ line (Create 2 16 row_limit) (result [])
    ∷ line (Create 2 16 (row_limit + 1)) (refused 4 0)
    ∷ []

-- 01's own example of the script: "prune 2 1 0", "page 3", "none", "free 11"
abbrev pub example : List Line
example =
    cut_at 20 (1 ∷ 2 ∷ []) (2 ∷ 1 ∷ 0 ∷ [])
    ++ (line (Find 20) (result (3 ∷ []))
    ∷ line (Find 5) (result [])
    ∷ line Check (result (3 ∷ 5 ∷ 11 ∷ []))
    ∷ [])

-- the table: each create begins a store anew
abbrev pub table : List Line
table =
    nine ++ example
    ++ cut_at 30 (1 ∷ 2 ∷ 3 ∷ []) (3 ∷ 1 ∷ 0 ∷ [])
    ++ cut_at 40 (1 ∷ 2 ∷ 3 ∷ 4 ∷ []) (4 ∷ 5 ∷ 2 ∷ [])
    ++ cut_at 50 (1 ∷ 2 ∷ 3 ∷ 4 ∷ 5 ∷ []) (5 ∷ 5 ∷ 0 ∷ [])
    ++ (line (Find 50) (result []) ∷ [])
    ++ refused_cuts ++ limits
