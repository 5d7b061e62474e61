-- 01, "Script program": "It reads records: four-byte length of what follows, then a two-byte kind, little-endian, then
-- 64-bit words."
use Rattle.std.specs.Prelude.{ℕ, zero, suc, ◌+◌, ◌*◌, ◌-◌, ◌/◌, ◌%◌, List, [], ◌∷◌, Bool, ◌&&◌, length, take, drop, leb, eqb}
use Rattle.model.specs.Words.{pick, word}

-- "little-endian"
unfoldable pub little : List ℕ → ℕ
little [] = 0
little (b ∷ bs) = b + 256 * little bs

-- the 64-bit words in these bytes, k of them
unfoldable pub words_in : ℕ → List ℕ → List ℕ
words_in zero bs = []
words_in (suc k) bs = little (take 8 bs) ∷ words_in k (drop 8 bs)

-- what a record asks for
pub data Request : Type 0 where
  Create : ℕ → ℕ → ℕ → Request
  Append : ℕ → ℕ → Request
  Find : ℕ → Request
  Prune : ℕ → ℕ → List ℕ → Request
  Walk : ℕ → Request
  Release : ℕ → Request
  Bad : Request

-- "Kinds: 1 create (C, P, start), 2 append (count, page), 3 find (row), 4 prune (start, end, page ids), 5 walk (row),
-- 6 release (pivot)." "another kind or a wrong size" is bad
unfoldable pub request_of : ℕ → List ℕ → Request
request_of kind ws =
    let n = length ws in
    let six = pick (eqb kind 6 && eqb n 1) (Release (word ws 0)) Bad in
    let five = pick (eqb kind 5 && eqb n 1) (Walk (word ws 0)) six in
    let four = pick (eqb kind 4 && leb 2 n) (Prune (word ws 0) (word ws 1) (drop 2 ws)) five in
    let three = pick (eqb kind 3 && eqb n 1) (Find (word ws 0)) four in
    let two = pick (eqb kind 2 && eqb n 2) (Append (word ws 0) (word ws 1)) three in
    pick (eqb kind 1 && eqb n 3) (Create (word ws 0) (word ws 1) (word ws 2)) two

-- of what follows the length: a kind and whole words, else "a wrong size"
unfoldable pub asked : List ℕ → Request
asked body =
    let n = length body - 2 in
    pick (leb 2 (length body) && eqb (n % 8) 0) (request_of (little (take 2 body)) (words_in (n / 8) (drop 2 body))) Bad

-- "A length above 4,096, a cut record": the length that these bytes begin with, and whether they hold what follows it
abbrev pub body_length : List ℕ → ℕ
body_length bs = little (take 4 bs)

unfoldable pub whole : List ℕ → Bool
whole bs = leb 4 (length bs) && leb (body_length bs) 4096 && leb (4 + body_length bs) (length bs)

-- the record that these bytes begin with
unfoldable pub first : List ℕ → Request
first bs = pick (whole bs) (asked (take (body_length bs) (drop 4 bs))) Bad
