-- Get and put: the same place, another place, another node, a header word, the length. Nothing above needs more.
use Prim.Native.Nat.{ℕ, ◌+◌, ◌*◌, ◌<◌, ◌≤◌}
use mathlib.Core.List.{List}
use mathlib.Core.Path.{◌≡◌, ap, ◌∙◌}
use mathlib.Core.Logic.{◌≢◌}
use native.Mathlib.Omega.{arith}
use native.Mathlib.Nat.{mul-le-mul_right, mul-le-mul_left, mul_comm, mul_assoc, add-mul}
use lib.Dec.{eqb, ltb}
use lib.ListN.{set, length, length-set}
use lib.Seq.{get_or-set_same, get_or-set_other, set_comm}
use borrow.Author.Tests.{eqb-true, eqb-false, ltb-true, ltb-false}
use Rattle.model.specs.Words.{Arrangement, Pairs, Shape, shape, word, stands, word_place, part, put, node_size, store_length, Header}
use Rattle.model.proofs.Tests.{by_test}

-- Places ------------------------------------------------------------------------------------------------

-- a product that fits: nodes before n, and their words
pub scaled : (C n : ℕ) → C ≤ 4094 → n ≤ 65535 → n * node_size C ≤ 536862720
scaled C n h l = omega (arith, mul-le-mul_right (4 + 2 * C) l, mul-le-mul_left 65535 h)

-- a store's length fits a usize, with room to spare
pub small : (C P : ℕ) (w : List ℕ) → Header C P w → length w ≤ 536862728
small C P w h =
    omega (arith, h.long, mul-le-mul_right (4 + 2 * C) h.pool-high, mul-le-mul_left 65535 h.cap-high)

-- a node has four words and two for each entry, so its words are eight or more
pub slots-are : (C P : ℕ) (w : List ℕ) → Header C P w → length w ≡ 8 + (4 * P + 2 * (C * P))
slots-are C P w h = h.long ∙ ap (λ (x : ℕ). 8 + x) (mul_comm P (node_size C) ∙ add-mul 4 (2 * C) P ∙ ap (λ (x : ℕ). 4 * P + x) (mul_assoc 2 C P))

pub nodes-few : (C P : ℕ) (w : List ℕ) → Header C P w → 8 + 8 * P ≤ length w
nodes-few C P w h = omega (arith, slots-are C P w h, mul-le-mul_right P h.cap-low)

-- What the laws below need of an arrangement: no two words at one place, and none outside the nodes.
pub stands-apart : (L : Arrangement) (C a b : ℕ) → stands L C a ≡ stands L C b → a ≡ b
unfolding stands
stands-apart Pairs C a b e = e

pub stands_lt : (L : Arrangement) (C P k : ℕ) → k < P * node_size C → stands L C k < P * node_size C
unfolding stands
stands_lt Pairs C P k l = l

-- in pairs word j of node n stands j words after its first
pub in_pairs_lem : (C n j : ℕ) → word_place (shape Pairs C) n j ≡ 8 + n * node_size C + j
unfolding word_place stands
in_pairs_lem C n j = omega arith

pub place-high : (C : Shape) (n j : ℕ) → 8 ≤ word_place C n j
unfolding word_place
place-high C n j = omega arith

pub place_lt : (C : Shape) (P n j : ℕ) → n < P → j < node_size C.cap → word_place C n j < store_length C.cap P
unfolding word_place
place_lt C P n j h l =
    let s = node_size C.cap in
    let k : n * s + j < P * s = omega (arith, mul-le-mul_right s h) in
    omega (arith, stands_lt C.slots C.cap P (n * s + j) k)

place-apart : (C : Shape) (n j k : ℕ) → word_place C n j ≡ word_place C n k → j ≡ k
unfolding word_place
place-apart C n j k e =
    let s = node_size C.cap in
    omega (arith, stands-apart C.slots C.cap (n * s + j) (n * s + k) (omega arith))

-- two nodes share no word
later : (s n m j k : ℕ) → n < m → j < s → n * s + j < m * s + k
later s n m j k h a = omega (arith, mul-le-mul_right s h)

same-node : (C : Shape) (n m j k : ℕ) → j < node_size C.cap → k < node_size C.cap → word_place C n j ≡ word_place C m k → n ≡ m
unfolding word_place
same-node C n m j k a b e =
    let s = node_size C.cap in
    let f = stands-apart C.slots C.cap (n * s + j) (m * s + k) (omega arith) in
    by_test (eqb n m) (λ t. eqb-true n m t)
    (λ t. by_test (ltb n m)
    (λ q. absurd (omega (arith, f, later s n m j k (ltb-true n m q) a)))
    (λ q. let d : m < n = omega (arith, ltb-false n m q, eqb-false n m t) in absurd (omega (arith, f, later s m n k j d b))))

-- Put ---------------------------------------------------------------------------------------------------

module _ (C : Shape) (P : ℕ) (w : List ℕ) (hd : Header C.cap P w) where
  pub put_same : (n j x : ℕ) → n < P → j < node_size C.cap → part C (put C w n j x) n j ≡ x
  unfolding put part
  put_same n j x h l = get_or-set_same w (word_place C n j) x 0 (omega (arith, place_lt C P n j h l, hd.long))

pub put_other : (C : Shape) (w : List ℕ) (n j k x : ℕ) → k ≢ j → part C (put C w n j x) n k ≡ part C w n k
unfolding put part
put_other C w n j k x h = get_or-set_other w (word_place C n j) (word_place C n k) x 0 (λ e. h (place-apart C n k j e))

pub put-node : (C : Shape) (w : List ℕ) (n m j k x : ℕ) → m ≢ n → j < node_size C.cap → k < node_size C.cap → part C (put C w n j x) m k ≡ part C w m k
unfolding put part
put-node C w n m j k x h l b = get_or-set_other w (word_place C n j) (word_place C m k) x 0 (λ e. h (same-node C m n k j b l e))

pub put_word : (C : Shape) (w : List ℕ) (n j x i : ℕ) → i < 8 → word (put C w n j x) i ≡ word w i
unfolding put
put_word C w n j x i h = get_or-set_other w (word_place C n j) i x 0 (λ e. omega (arith, place-high C n j))

pub put-length : (C : Shape) (w : List ℕ) (n j x : ℕ) → length (put C w n j x) ≡ length w
unfolding put
put-length C w n j x = length-set w (word_place C n j) x

-- writes to two nodes may change places
pub put_comm : (C : Shape) (w : List ℕ) (n m j k x y : ℕ) → m ≢ n → j < node_size C.cap → k < node_size C.cap → put C (put C w m k y) n j x ≡ put C (put C w n j x) m k y
unfolding put
put_comm C w n m j k x y h l b = set_comm w (word_place C m k) (word_place C n j) y x (λ e. h (same-node C m n k j b l e))

-- a header word is no node's
pub set-put : (C : Shape) (w : List ℕ) (n j x i y : ℕ) → i < 8 → set (put C w n j x) i y ≡ put C (set w i y) n j x
unfolding put
set-put C w n j x i y h = set_comm w (word_place C n j) i x y (λ e. omega (arith, place-high C n j))

pub set-part : (C : Shape) (w : List ℕ) (i x n j : ℕ) → i < 8 → part C (set w i x) n j ≡ part C w n j
unfolding part
set-part C w i x n j h = get_or-set_other w i (word_place C n j) x 0 (λ e. omega (arith, place-high C n j))

-- what is known of a length stays known
pub header_at : (C P : ℕ) (w v : List ℕ) → Header C P w → length v ≡ length w → Header C P v
header_at C P w v hd e =
    record { cap-low = hd.cap-low; cap-high = hd.cap-high; pool-low = hd.pool-low; pool-high = hd.pool-high; long = e ∙ hd.long }

pub put-header : (C : Shape) (P : ℕ) (w : List ℕ) → Header C.cap P w → (n j x : ℕ) → Header C.cap P (put C w n j x)
put-header C P w hd n j x = header_at C.cap P w (put C w n j x) hd (put-length C w n j x)
