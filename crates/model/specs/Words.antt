-- 01, "Node words": the words of a store, and the words of a node. C is the capacity of a node, or the shape of a
-- store where words of its nodes are read; P is the number of nodes. How large a node is, where its words stand, and
-- which C, P and length make a store is said here and nowhere else.
use Rattle.std.specs.Prelude.{ℕ, zero, suc, ◌+◌, ◌*◌, ◌-◌, ◌^◌, ◌≤◌, List, [], ◌∷◌, Bool, true, false, ◌&&◌, ◌≡◌, get_or, set, length, take, drop, leb, eqb}

-- one of two, by a test
abbrev pub pick : {A : Type 0} → Bool → A → A → A
pick true a b = a
pick false a b = b

-- "A store is a lent slice of 64-bit words."
abbrev pub word : List ℕ → ℕ → ℕ
word w i = get_or w i 0

-- "C is the capacity of a node in entries, 2 to 4,094."
abbrev pub capacity_ok : ℕ → Bool
capacity_ok C = leb 2 C && leb C 4094

-- "P is the number of nodes, 1 to 65,535."
abbrev pub pool_ok : ℕ → Bool
pool_ok P = leb 1 P && leb P 65535

-- the words of a node: four, "then C pairs"
abbrev pub node_size : ℕ → ℕ
node_size C = 4 + 2 * C

-- "The length is exactly 8 + P × (4 + 2 × C)."
abbrev pub store_length : ℕ → ℕ → ℕ
store_length C P = 8 + P * node_size C

-- C and P are in range
abbrev pub in_range : ℕ → ℕ → Bool
in_range C P = capacity_ok C && pool_ok P

-- neither "C, P or length wrong", of so many words
abbrev pub sized : ℕ → ℕ → ℕ → Bool
sized C P n = in_range C P && eqb n (store_length C P)

-- "Words 0 to 4: C, P, root number (P when closed), head of the free chain (P when none), free count."
module _ (w : List ℕ) where
  abbrev pub capacity : ℕ
  capacity = word w 0

  abbrev pub pool : ℕ
  pool = word w 1

  abbrev pub root : ℕ
  root = word w 2

  abbrev pub free_head : ℕ
  free_head = word w 3

  abbrev pub free_count : ℕ
  free_count = word w 4

-- The shape of a store ------------------------------------------------------------------------------------

-- how the slots of a node lie: "then C pairs (row, page or child number)"
pub data Arrangement : Type 0 where
  Pairs : Arrangement

-- the arrangement of every store that is lent to a call: the contracts of the code are at it
abbrev pub lent : Arrangement
lent = Pairs

-- the capacity of a store's nodes, and how their slots lie
pub record Shape : Type 0 where
  pub cap : ℕ
  pub slots : Arrangement

abbrev pub shape : Arrangement → ℕ → Shape
shape L C = record { cap = C; slots = L }

-- by a store's own first word
abbrev pub store_shape : Arrangement → List ℕ → Shape
store_shape L w = shape L (capacity w)

-- Words of nodes are numbered as 01 numbers them, whatever the arrangement. Where number k stands, both counted from the
-- first node on: no two numbers stand at one place, also those that no node has.
unfoldable pub stands : Arrangement → ℕ → ℕ → ℕ
stands Pairs C k = k

-- "Node n starts at word 8 + n × (4 + 2 × C)": where its word j stands
unfoldable pub word_place : Shape → ℕ → ℕ → ℕ
word_place C n j = 8 + stands C.slots C.cap (n * node_size C.cap + j)

-- word j of node n
unfoldable pub part : Shape → List ℕ → ℕ → ℕ → ℕ
part C w n j = word w (word_place C n j)

-- word j of node n becomes x
unfoldable pub put : Shape → List ℕ → ℕ → ℕ → ℕ → List ℕ
put C w n j x = set w (word_place C n j) x

-- Which of a node's words are row i and page or child number i: 01's numbers, in every arrangement.
abbrev pub row_place : ℕ → ℕ
row_place i = 4 + 2 * i

abbrev pub child_place : ℕ → ℕ
child_place i = 5 + 2 * i

-- "height, count, start, end, then C pairs (row, page or child number)"
module _ (C : Shape) (w : List ℕ) (n : ℕ) where
  abbrev pub height : ℕ
  height = part C w n 0

  abbrev pub count : ℕ
  count = part C w n 1

  abbrev pub start : ℕ
  start = part C w n 2

  abbrev pub end : ℕ
  end = part C w n 3

  abbrev pub row : ℕ → ℕ
  row i = part C w n (row_place i)

  abbrev pub child : ℕ → ℕ
  child i = part C w n (child_place i)

-- "The entries of a node are handed back as that part of the store's words": in pairs, pairs i, i + 1, …, k of them
abbrev pub pair_words : Shape → List ℕ → ℕ → ℕ → ℕ → List ℕ
pair_words C w n i k = take (2 * k) (drop (word_place C n (row_place i)) w)

-- "A free node has height 2^32 − 1 and the next free number, or P, as its count."
abbrev pub free_mark : ℕ
free_mark = 2 ^ 32 - 1

-- "NONE is 2^64 − 1."
abbrev pub NONE : ℕ
NONE = 2 ^ 64 - 1

-- "Rows and ends are at most 2^62"
abbrev pub row_limit : ℕ
row_limit = 2 ^ 62

-- "(root: at most 31)"
abbrev pub max_height : ℕ
max_height = 31

-- what every word's place rests on: C, P and the length fit
pub record Header (C P : ℕ) (w : List ℕ) : Type 0 where
  pub cap-low : 2 ≤ C
  pub cap-high : C ≤ 4094
  pub pool-low : 1 ≤ P
  pub pool-high : P ≤ 65535
  pub long : length w ≡ store_length C P

-- What several calls write -----------------------------------------------------------------------------

-- an empty leaf from row s on: "an empty root leaf ends at NONE"; pairs keep what they held
unfoldable pub emptied : Shape → List ℕ → ℕ → ℕ → List ℕ
emptied C w n s = put C (put C (put C (put C w n 0 0) n 1 0) n 2 s) n 3 NONE

-- one more entry in node n
unfoldable pub added : Shape → List ℕ → ℕ → ℕ → ℕ → List ℕ
added C w n r x =
    let k = count C w n in
    put C (put C (put C w n (row_place k) r) n (child_place k) x) n 1 (k + 1)

-- words j, j + 1, … of node a, k of them, go to node b
unfoldable pub copy_from : Shape → List ℕ → ℕ → ℕ → ℕ → ℕ → List ℕ
copy_from C w a b j zero = w
copy_from C w a b j (suc k) = copy_from C (put C w b j (part C w a j)) a b (j + 1) k

-- "Copying a node copies all its words."
unfoldable pub copied : Shape → List ℕ → ℕ → ℕ → List ℕ
copied C w a b = copy_from C w a b 0 (node_size C.cap)

-- "freeing puts it at the head and writes its first two words only"
unfoldable pub freed : Shape → List ℕ → ℕ → List ℕ
freed C w n = set (set (put C (put C w n 0 free_mark) n 1 (free_head w)) 3 n) 4 (free_count w + 1)

unfoldable pub free_all : Shape → List ℕ → List ℕ → List ℕ
free_all C w [] = w
free_all C w (n ∷ ns) = free_all C (freed C w n) ns

-- records go into a lent list from place i on; "the rest of which stays"
unfoldable pub fill : {A : Type 0} → List A → ℕ → List A → List A
fill l i [] = l
fill l i (x ∷ xs) = fill (set l i x) (i + 1) xs
