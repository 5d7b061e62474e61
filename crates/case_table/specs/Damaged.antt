-- Calls on damaged stores. After five appends the root 0 leads to branches 3 and 4, branch 3 to leaves 1 and 2, branch 4
-- to leaf 5; the chain is 6, 7, … 15.
use Rattle.std.specs.Prelude.{ℕ, ◌+◌, List, [], ◌∷◌, ◌++◌}
use Rattle.model.specs.Refusals.{Answer, result, refused}
use Rattle.case_table.specs.Run.{Create, Append, Find, Prune, Walk, Release, ReleaseEmpty, Check, Set, Put, Line}
use Rattle.case_table.specs.Table.{line, NONE, row_limit, five}

abbrev pub header_damaged : Answer
header_damaged = refused 2 65535

abbrev pub found : ℕ → Answer
found x = result (x ∷ [])

abbrev pub done : Answer
done = result []

-- node n is unsound, row q lies below it, and row 45 does not
abbrev pub unsound_at : ℕ → ℕ → List Line
unsound_at n q =
    line (Find q) (refused 2 n) ∷ line (Find 45) (found 5) ∷ line Check (refused 2 n) ∷ line (Release 0) (refused 2 n)
    ∷ line (Prune 0 50 (1 ∷ 2 ∷ 3 ∷ 4 ∷ 5 ∷ [])) (refused 2 n) ∷ []

-- word j of node n was right and becomes x
abbrev pub broken : ℕ → ℕ → ℕ → ℕ → List Line
broken n q j x = five ++ (line (Put n j x) done ∷ unsound_at n q)

-- each part of the node test, in its order: height, count, rows, first row, start, end of a leaf
abbrev pub node_tests : List Line
node_tests =
    broken 2 25 0 1 ++ broken 2 25 1 0 ++ broken 2 25 1 3 ++ broken 2 25 6 20 ++ broken 2 25 4 21 ++ broken 2 25 2 21
    ++ broken 2 25 3 30 ++ broken 2 25 3 39 ++ broken 2 25 3 41 ++ broken 2 25 3 NONE
    -- a branch's end is above its last row
    ++ broken 3 5 3 20 ++ broken 3 5 3 5

-- a leaf on the right edge: the end is free up to 2^62; a wrong end of a branch only fails the full check
abbrev pub ends : List Line
ends =
    five
    ++ (line (Put 5 3 row_limit) done ∷ line (Find 1000) (found 5) ∷ line (Append 1 6) (refused 4 0)
    ∷ line Check (result (5 ∷ 6 ∷ 10 ∷ [])) ∷ line (Put 5 3 (row_limit + 1)) done ∷ line (Find 1000) (refused 2 5)
    ∷ line (Append 1 6) (refused 2 5) ∷ [])
    ++ five
    ++ (line (Put 3 3 35) done ∷ line (Find 25) (found 3) ∷ line Check (refused 2 3) ∷ line (Put 3 3 NONE) done
    ∷ line Check (result (5 ∷ 6 ∷ 10 ∷ [])) ∷ line (Put 4 3 50) done ∷ line (Find 45) (found 5) ∷ line Check (refused 2 4)
    -- unsound nodes come before wrong ends
    ∷ line (Put 5 2 41) done ∷ line Check (refused 2 5) ∷ [])

-- a child number out of range counts where it is followed, at the child's place, and names the node that holds it
abbrev pub children : List Line
children =
    five
    ++ (line (Put 3 7 16) done ∷ line (Find 5) (found 1) ∷ line (Find 45) (found 5) ∷ line (Find 25) (refused 2 3)
    ∷ line Check (refused 2 3) ∷ line (Release 0) (refused 2 3)
    ∷ (Walk 0, result (0 ∷ 20 ∷ 2 ∷ []) ∷ refused 2 3 ∷ [])
    -- what is left of it is read first
    ∷ line (Put 1 2 1) done ∷ line Check (refused 2 1) ∷ line (Put 1 2 0) done
    -- not followed: nothing past the last named entry is read
    ∷ line (Prune 0 20 (1 ∷ 2 ∷ [])) (result (2 ∷ 1 ∷ 0 ∷ []))
    ∷ [])
    -- a child that is no child: a free node, the root, a leaf of another branch
    ++ five ++ (line (Put 3 7 6) done ∷ line (Find 25) (refused 2 6) ∷ line (Put 3 7 0) done ∷ line (Find 25) (refused 2 0)
    ∷ line (Put 3 7 5) done ∷ line (Find 25) (refused 2 5) ∷ [])

-- the root
abbrev pub roots : List Line
roots =
    five
    ++ (line (Put 0 0 32) done ∷ line (Find 5) (refused 2 0) ∷ line (Append 1 6) (refused 2 0)
    ∷ (Walk 0, refused 2 0 ∷ []) ∷ line (Release 0) (refused 2 0) ∷ line ReleaseEmpty (refused 2 0) ∷ line Check (refused 2 0) ∷ [])
    ++ (line (Create 2 4 7) done ∷ (Walk 0, result (7 ∷ NONE ∷ 0 ∷ []) ∷ result [] ∷ []) ∷ line (Put 0 3 9) done
    ∷ line (Find 8) (refused 2 0) ∷ line (Put 0 3 NONE) done ∷ line (Put 0 2 row_limit) done ∷ line Check (result (0 ∷ 1 ∷ 3 ∷ []))
    ∷ line (Append 1 1) (refused 4 0) ∷ line (Put 0 2 (row_limit + 1)) done ∷ line Check (refused 2 0) ∷ [])
    -- below the root's start only the root is read
    ++ (line (Create 2 16 100) done ∷ line (Append 10 1) (result (100 ∷ 110 ∷ 0 ∷ [])) ∷ line (Append 10 2) (result (110 ∷ 120 ∷ 0 ∷ []))
    ∷ line (Append 10 3) (result (120 ∷ 130 ∷ 2 ∷ [])) ∷ line (Put 1 2 9) done ∷ line (Find 50) (result []) ∷ line (Find 105) (refused 2 1)
    -- and it must be sound: word 9 is its count
    ∷ line (Set 9 3) done ∷ line (Find 50) (refused 2 0) ∷ [])
    -- "Prune: 7, root 2, 8"
    ++ five ++ (line (Set 9 3) done ∷ line (Prune 10 20 (2 ∷ [])) (refused 2 0) ∷ [])

-- the chain: a head that is not free, a number out of range, a next number out of range, a repeated node
abbrev pub chains : List Line
chains =
    (line (Create 2 8 0) done ∷ line (Append 10 1) (result (0 ∷ 10 ∷ 0 ∷ [])) ∷ line (Append 10 2) (result (10 ∷ 20 ∷ 0 ∷ []))
    ∷ line (Set 3 0) done ∷ line (Append 10 3) header_damaged ∷ line Check header_damaged
    ∷ line (Set 3 8) done ∷ line (Append 10 3) header_damaged
    ∷ line (Set 3 1) done ∷ line (Put 2 1 9) done ∷ line (Append 10 3) header_damaged
    ∷ line (Put 2 1 8) done ∷ line Check header_damaged ∷ line (Put 1 1 1) done ∷ line (Append 10 3) header_damaged
    -- 5 comes before the chain
    ∷ line (Set 4 1) done ∷ line (Append 10 3) (refused 5 2)
    -- only the nodes wanted are looked at
    ∷ line (Set 4 7) done ∷ line (Put 1 1 2) done ∷ line (Put 3 0 0) done ∷ line Check header_damaged
    ∷ line (Append 10 3) (result (20 ∷ 30 ∷ 2 ∷ [])) ∷ [])

-- header words; a free count that freed nodes would carry past P; a closed store
abbrev pub headers : List Line
headers =
    five
    ++ (line (Set 4 17) done ∷ line (Find 5) header_damaged ∷ line (Append 1 6) header_damaged ∷ line (Prune 0 0 []) header_damaged
    ∷ (Walk 0, header_damaged ∷ []) ∷ line (Release 0) header_damaged ∷ line ReleaseEmpty header_damaged ∷ line Check header_damaged
    ∷ line (Set 4 16) done ∷ line (Find 5) (found 1) ∷ line Check header_damaged ∷ line (Release 0) header_damaged
    ∷ line (Prune 0 20 (1 ∷ 2 ∷ [])) header_damaged ∷ line (Prune 0 10 (1 ∷ [])) (result (1 ∷ 0 ∷ 0 ∷ []))
    ∷ line (Set 2 17) done ∷ line (Find 15) header_damaged ∷ line (Set 2 16) done ∷ line (Find 15) (refused 3 0)
    ∷ line (Append 0 6) (refused 3 0) ∷ line (Prune 0 0 []) (refused 3 0) ∷ (Walk 0, refused 3 0 ∷ []) ∷ line (Release 0) (refused 3 0)
    ∷ line ReleaseEmpty (refused 3 0) ∷ line Check (refused 3 0) ∷ [])
    -- "Prune and release end with 2 where the free count and the nodes to be freed pass P together": of an empty root too
    ++ (line (Create 2 16 7) done ∷ line (Set 4 16) done ∷ line ReleaseEmpty header_damaged ∷ line (Release 0) header_damaged
    ∷ line (Set 4 15) done ∷ line ReleaseEmpty (result (1 ∷ 0 ∷ [])) ∷ [])

-- release: the first row below the pivot; afterwards closed, and a create opens again
abbrev pub releases : List Line
releases =
    five
    ++ (line (Release 1) (refused 12 0) ∷ line ReleaseEmpty (refused 12 0) ∷ line (Prune 0 20 (1 ∷ 2 ∷ [])) (result (2 ∷ 1 ∷ 0 ∷ []))
    ∷ line (Release 21) (refused 12 20) ∷ line (Release 20) (result (5 ∷ 3 ∷ [])) ∷ line (Find 20) (refused 3 0) ∷ line Check (refused 3 0)
    ∷ line (Create 2 1 5) done ∷ line (Append 3 9) (result (5 ∷ 8 ∷ 0 ∷ [])) ∷ line (Append 3 9) (result (8 ∷ 11 ∷ 0 ∷ []))
    ∷ line (Append 3 9) (refused 5 2) ∷ line (Prune 5 11 (9 ∷ 9 ∷ [])) (result (2 ∷ 0 ∷ 0 ∷ [])) ∷ line ReleaseEmpty (result (1 ∷ 0 ∷ [])) ∷ [])

-- prune goes by positions: the first entry that stays ends the cut, whatever the rows to its right say
abbrev pub cuts : List Line
cuts =
    five
    ++ (line (Put 3 3 NONE) done ∷ line (Put 3 6 50) done ∷ line (Put 1 1 1) done ∷ line (Put 1 3 50) done
    ∷ line (Prune 0 50 (1 ∷ [])) (result (1 ∷ 1 ∷ 0 ∷ [])) ∷ [])
    -- a branch left with one entry is collapsed into the root only after the child was read and found sound
    ++ five ++ (line (Put 5 2 41) done ∷ line (Prune 0 30 (1 ∷ 2 ∷ 3 ∷ [])) (result (3 ∷ 1 ∷ 0 ∷ [])) ∷ [])
    ++ five ++ (line (Put 5 2 41) done ∷ line (Prune 0 40 (1 ∷ 2 ∷ 3 ∷ 4 ∷ [])) (refused 2 5) ∷ line (Put 4 5 16) done
    ∷ line (Prune 0 40 (1 ∷ 2 ∷ 3 ∷ 4 ∷ [])) (refused 2 4) ∷ [])

abbrev pub damaged : List Line
damaged = node_tests ++ ends ++ children ++ roots ++ chains ++ headers ++ releases ++ cuts
