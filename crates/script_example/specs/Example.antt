-- Scripts and their listings: 01's own, and the edges of its records.
use Rattle.std.specs.Prelude.{ℕ, zero, suc, ◌+◌, ◌/◌, ◌%◌, ◌^◌, List, [], ◌∷◌, ◌++◌, map, length}
use Rattle.model.specs.Words.{NONE}
use Rattle.script_text.specs.Lines.{line}
use Rattle.answer_line.specs.Names.{create_name, append_name, page_name, none_name, prune_name, leaf_name, end_name, release_name, no_name, free_name, bad_record_name}

-- k bytes of n, little-endian
unfoldable pub bytes : ℕ → ℕ → List ℕ
bytes zero n = []
bytes (suc k) n = n % 256 ∷ bytes k (n / 256)

unfoldable pub word_bytes : List ℕ → List ℕ
word_bytes [] = []
word_bytes (w ∷ ws) = bytes 8 w ++ word_bytes ws

-- a record of a kind and its words
abbrev pub record_of : ℕ → List ℕ → List ℕ
record_of kind ws = let body = bytes 2 kind ++ word_bytes ws in bytes 4 (length body) ++ body

abbrev pub append : ℕ → List ℕ
append page = record_of 2 (10 ∷ page ∷ [])

abbrev pub find : ℕ → List ℕ
find row = record_of 3 (row ∷ [])

abbrev pub walk : ℕ → List ℕ
walk row = record_of 5 (row ∷ [])

-- "Create 2 16 0, five appends of 10 rows with pages 1 to 5"
abbrev pub five : List ℕ
five = record_of 1 (2 ∷ 16 ∷ 0 ∷ []) ++ append 1 ++ append 2 ++ append 3 ++ append 4 ++ append 5

abbrev pub five_lines : List ℕ
five_lines =
    line create_name []
    ++ line append_name (0 ∷ 10 ∷ 0 ∷ [])
    ++ line append_name (10 ∷ 20 ∷ 0 ∷ [])
    ++ line append_name (20 ∷ 30 ∷ 2 ∷ [])
    ++ line append_name (30 ∷ 40 ∷ 0 ∷ [])
    ++ line append_name (40 ∷ 50 ∷ 3 ∷ [])

-- "prune 0 20 [1, 2], find 20, find 5"
abbrev pub example : List ℕ
example = five ++ record_of 4 (0 ∷ 20 ∷ 1 ∷ 2 ∷ []) ++ find 20 ++ find 5

abbrev pub example_lines : List ℕ
example_lines =
    five_lines ++ line prune_name (2 ∷ 1 ∷ 0 ∷ []) ++ line page_name (3 ∷ []) ++ line none_name [] ++ line free_name (11 ∷ [])

-- 01, "Cuts and edges": nine appends, and the walks after them; "Walk from 0: starts 0, 20, 40, 60, 80"
abbrev pub nine : List ℕ
nine = five ++ append 6 ++ append 7 ++ append 8 ++ append 9 ++ walk 0 ++ walk 65 ++ walk 1000

abbrev pub last_leaf : List ℕ
last_leaf = line leaf_name (80 ∷ 90 ∷ 1 ∷ []) ++ line end_name []

abbrev pub nine_lines : List ℕ
nine_lines =
    five_lines
    ++ line append_name (50 ∷ 60 ∷ 0 ∷ [])
    ++ line append_name (60 ∷ 70 ∷ 1 ∷ [])
    ++ line append_name (70 ∷ 80 ∷ 0 ∷ [])
    ++ line append_name (80 ∷ 90 ∷ 4 ∷ [])
    ++ line leaf_name (0 ∷ 20 ∷ 2 ∷ []) ++ line leaf_name (20 ∷ 40 ∷ 2 ∷ []) ++ line leaf_name (40 ∷ 60 ∷ 2 ∷ [])
    ++ line leaf_name (60 ∷ 80 ∷ 2 ∷ []) ++ last_leaf
    ++ line leaf_name (60 ∷ 80 ∷ 2 ∷ []) ++ last_leaf
    ++ last_leaf
    ++ line free_name (5 ∷ [])

abbrev pub no_line : ℕ → ℕ → List ℕ
no_line number detail = line no_name (number ∷ detail ∷ [])

-- before any create: every call gets all words, and they are no store
abbrev pub unmade : List ℕ
unmade = append 1 ++ find 0 ++ record_of 4 (0 ∷ 0 ∷ []) ++ walk 0 ++ record_of 6 (0 ∷ [])

abbrev pub unmade_lines : List ℕ
unmade_lines =
    no_line 2 65535 ++ no_line 2 65535 ++ no_line 2 65535 ++ no_line 2 65535 ++ no_line 2 65535 ++ line free_name (0 ∷ [])

-- creates that are refused, by C, by P, by a length above 4,096, by the start; they keep the former length. The largest
-- leaf fills the memory but for four words
abbrev pub creates : List ℕ
creates =
    record_of 1 (1 ∷ 16 ∷ 0 ∷ []) ++ record_of 1 (2042 ∷ 1 ∷ 7 ∷ []) ++ record_of 1 (2 ∷ 65536 ∷ 0 ∷ [])
    ++ record_of 1 (2043 ∷ 1 ∷ 0 ∷ []) ++ record_of 1 (2 ∷ 16 ∷ (2 ^ 62 + 1) ∷ []) ++ append 3 ++ find 16

abbrev pub creates_lines : List ℕ
creates_lines =
    no_line 1 0 ++ line create_name [] ++ no_line 1 0 ++ no_line 1 0 ++ no_line 4 0 ++ line append_name (7 ∷ 17 ∷ 0 ∷ [])
    ++ line page_name (3 ∷ []) ++ line free_name (0 ∷ [])

-- an empty store: its walk, a prune with no ids, a release; then it is closed, and a create opens it again
abbrev pub released : List ℕ
released =
    record_of 1 (2 ∷ 3 ∷ 7 ∷ []) ++ walk 0 ++ record_of 4 (7 ∷ 8 ∷ []) ++ append 5 ++ record_of 6 (8 ∷ [])
    ++ record_of 6 (7 ∷ []) ++ walk 0 ++ record_of 1 (2 ∷ 2 ∷ 0 ∷ [])

abbrev pub released_lines : List ℕ
released_lines =
    line create_name [] ++ line leaf_name (7 ∷ NONE ∷ 0 ∷ []) ++ line end_name [] ++ no_line 7 0
    ++ line append_name (7 ∷ 17 ∷ 0 ∷ []) ++ no_line 12 7 ++ line release_name (1 ∷ 1 ∷ []) ++ no_line 3 0 ++ line create_name []
    ++ line free_name (1 ∷ [])

-- bytes that are no record, after one that is: the lines before it stay, and no `free` line follows
abbrev pub spoilt : List ℕ → List ℕ
spoilt bs = find 0 ++ bs

abbrev pub spoilt_lines : List ℕ
spoilt_lines = no_line 2 65535 ++ line bad_record_name []

-- a cut length; a length and nothing more; a length below 2; a cut body; a length above 4,096 with as many bytes; kinds
-- 0, 7 and 257; one word too few and one too many; a byte too many; a prune of one word; a good record after a bad one
abbrev pub spoils : List (List ℕ)
spoils =
    (0 ∷ [])
    ∷ (0 ∷ 0 ∷ 0 ∷ [])
    ∷ bytes 4 0
    ∷ (bytes 4 1 ++ (3 ∷ []))
    ∷ (bytes 4 10 ++ bytes 2 3 ++ bytes 7 0)
    ∷ (bytes 4 4098 ++ bytes 2 4 ++ bytes 4096 0)
    ∷ record_of 0 (1 ∷ [])
    ∷ record_of 7 (1 ∷ [])
    ∷ record_of 257 (2 ∷ 16 ∷ 0 ∷ [])
    ∷ record_of 1 (2 ∷ 16 ∷ [])
    ∷ record_of 1 (2 ∷ 16 ∷ 0 ∷ 0 ∷ [])
    ∷ record_of 2 (10 ∷ [])
    ∷ record_of 3 []
    ∷ (bytes 4 11 ++ bytes 2 3 ++ bytes 9 0)
    ∷ record_of 4 (0 ∷ [])
    ∷ record_of 5 (0 ∷ 0 ∷ [])
    ∷ record_of 6 []
    ∷ (record_of 7 [] ++ find 0)
    ∷ []

-- 01's listing, byte by byte
abbrev pub example_bytes : List ℕ
example_bytes =
    99 ∷ 114 ∷ 101 ∷ 97 ∷ 116 ∷ 101 ∷ 10
    ∷ 97 ∷ 112 ∷ 112 ∷ 101 ∷ 110 ∷ 100 ∷ 32 ∷ 48 ∷ 32 ∷ 49 ∷ 48 ∷ 32 ∷ 48 ∷ 10
    ∷ 97 ∷ 112 ∷ 112 ∷ 101 ∷ 110 ∷ 100 ∷ 32 ∷ 49 ∷ 48 ∷ 32 ∷ 50 ∷ 48 ∷ 32 ∷ 48 ∷ 10
    ∷ 97 ∷ 112 ∷ 112 ∷ 101 ∷ 110 ∷ 100 ∷ 32 ∷ 50 ∷ 48 ∷ 32 ∷ 51 ∷ 48 ∷ 32 ∷ 50 ∷ 10
    ∷ 97 ∷ 112 ∷ 112 ∷ 101 ∷ 110 ∷ 100 ∷ 32 ∷ 51 ∷ 48 ∷ 32 ∷ 52 ∷ 48 ∷ 32 ∷ 48 ∷ 10
    ∷ 97 ∷ 112 ∷ 112 ∷ 101 ∷ 110 ∷ 100 ∷ 32 ∷ 52 ∷ 48 ∷ 32 ∷ 53 ∷ 48 ∷ 32 ∷ 51 ∷ 10
    ∷ 112 ∷ 114 ∷ 117 ∷ 110 ∷ 101 ∷ 32 ∷ 50 ∷ 32 ∷ 49 ∷ 32 ∷ 48 ∷ 10
    ∷ 112 ∷ 97 ∷ 103 ∷ 101 ∷ 32 ∷ 51 ∷ 10
    ∷ 110 ∷ 111 ∷ 110 ∷ 101 ∷ 10
    ∷ 102 ∷ 114 ∷ 101 ∷ 101 ∷ 32 ∷ 49 ∷ 49 ∷ 10 ∷ []

-- `leaf 7 18446744073709551615 0`, `end`, `free 0`
abbrev pub empty_walk_bytes : List ℕ
empty_walk_bytes =
    99 ∷ 114 ∷ 101 ∷ 97 ∷ 116 ∷ 101 ∷ 10
    ∷ 108 ∷ 101 ∷ 97 ∷ 102 ∷ 32 ∷ 55 ∷ 32 ∷ 49 ∷ 56 ∷ 52 ∷ 52 ∷ 54 ∷ 55 ∷ 52 ∷ 52 ∷ 48 ∷ 55 ∷ 51 ∷ 55 ∷ 48 ∷ 57 ∷ 53 ∷ 53 ∷ 49 ∷ 54 ∷ 49 ∷ 53 ∷ 32 ∷ 48 ∷ 10
    ∷ 101 ∷ 110 ∷ 100 ∷ 10
    ∷ 102 ∷ 114 ∷ 101 ∷ 101 ∷ 32 ∷ 48 ∷ 10 ∷ []

-- a script and its listing
abbrev pub Case : Type 0
Case = List ℕ × List ℕ

abbrev pub cases : List Case
cases =
    (example, example_lines) ∷ (nine, nine_lines) ∷ (unmade, unmade_lines) ∷ (creates, creates_lines) ∷ (released, released_lines)
    ∷ (example, example_bytes) ∷ (record_of 1 (2 ∷ 1 ∷ 7 ∷ []) ++ walk 0, empty_walk_bytes) ∷ ([], line free_name (0 ∷ []))
    ∷ map (λ (bs : List ℕ). (spoilt bs, spoilt_lines)) spoils
