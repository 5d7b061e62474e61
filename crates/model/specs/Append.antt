-- 01, "Append (`insert_row_page`)".
use Rattle.std.specs.Prelude.{ℕ, zero, suc, ◌+◌, ◌-◌, List, [], ◌∷◌, ◌++◌, Bool, true, ◌&&◌, ◌||◌, length, set, leb, ltb, eqb}
use Rattle.model.specs.Words.{store_shape, Arrangement, Shape, pick, pool, root, free_head, free_count, put, added, copied, row_place, child_place, height, count, start, end, child, NONE, row_limit, free_mark, max_height}
use Rattle.model.specs.Reading.{Reached, unsound, leaf, root_leaf, to_right, occ}
use Rattle.model.specs.Refusals.{Answer, result, refused, damaged, Outcome, when_open}

-- "Empty root: the range begins at its start; else at the right leaf's end."
unfoldable pub append_start : Shape → List ℕ → ℕ → ℕ
append_start C w n = pick (eqb (count C w n) 0) (start C w n) (end C w n)

-- where the entry goes, and how many nodes it needs
pub record Room : Type 0 where
  pub node : ℕ
  pub needed : ℕ

-- "Nodes needed: 0 where the right leaf has room; p where the first non-full ancestor has height p": the lowest node
-- of the right edge with room, down from node n of height h; o where none has
unfoldable pub room_from : Shape → List ℕ → ℕ → ℕ → Room → Room
room_from C w zero n o = pick (ltb (count C w n) C.cap) (record { node = n; needed = 0 }) o
room_from C w (suc h) n o =
    room_from C w h (child C w n (to_right C w n)) (pick (ltb (count C w n) C.cap) (record { node = n; needed = suc h }) o)

-- "height + 2 where all are full"
unfoldable pub room : Shape → List ℕ → ℕ → Room
room C w n = room_from C w (height C w n) n (record { node = n; needed = height C w n + 2 })

-- The chain ----------------------------------------------------------------------------------------------

-- "Taking a node takes the head": the first k nodes of the chain from n, and the number after them
unfoldable pub firsts : Shape → List ℕ → ℕ → ℕ → List ℕ
firsts C w n zero = []
firsts C w n (suc k) = n ∷ firsts C w (count C w n) k

unfoldable pub past : Shape → List ℕ → ℕ → ℕ → ℕ
past C w n zero = n
past C w n (suc k) = past C w (count C w n) k

-- "each below P and marked free, its next number at most P, none repeated"
unfoldable pub chain_sound : Shape → ℕ → List ℕ → ℕ → List ℕ → ℕ → Bool
chain_sound C P w n seen zero = true
chain_sound C P w n seen (suc k) =
    let more = chain_sound C P w (count C w n) (seen ++ (n ∷ [])) k in
    ltb n P && eqb (height C w n) free_mark && leb (count C w n) P && eqb (occ n seen) 0 && more

-- k nodes of the words w left the chain
unfoldable pub taken : Shape → List ℕ → List ℕ → ℕ → List ℕ
taken C w v k = set (set v 3 (past C w (free_head w) k)) 4 (free_count w - k)

-- The writes ---------------------------------------------------------------------------------------------

-- node n becomes a node of one entry: four words and its first pair
unfoldable pub fresh : Shape → List ℕ → ℕ → ℕ → ℕ → ℕ → ℕ → List ℕ
fresh C w n h s e x =
    put C (put C (put C (put C (put C (put C w n 0 h) n 1 1) n 2 s) n 3 e) n (row_place 0) s) n (child_place 0) x

-- what a node over the nodes ns leads to, and its end: "New branches end at NONE."
unfoldable pub top_of : ℕ → List ℕ → ℕ
top_of x [] = x
top_of x (n ∷ ns) = n

unfoldable pub end_over : ℕ → List ℕ → ℕ
end_over e [] = e
end_over e (n ∷ ns) = NONE

-- "a new path of one-entry nodes", "top node first", over page x with rows s to e
unfoldable pub new_path : Shape → List ℕ → ℕ → ℕ → ℕ → List ℕ → List ℕ
new_path C w s e x [] = w
new_path C w s e x (n ∷ ns) = new_path C (fresh C w n (length ns) s (end_over e ns) (top_of x ns)) s e x ns

-- room in the right leaf n; or the path over ns "hangs there", in branch n
unfoldable pub hang : Shape → List ℕ → ℕ → ℕ → ℕ → ℕ → List ℕ → List ℕ
hang C w n s e x [] = put C (added C w n s x) n 3 e
hang C w n s e x (m ∷ ns) = new_path C (added C w n s m) s e x (m ∷ ns)

-- root n gets two entries: its copy c from its start, and node m from row s; its start stays
unfoldable pub raised : Shape → List ℕ → ℕ → ℕ → ℕ → ℕ → List ℕ
raised C w n c s m =
    let v = put C (put C (put C w n 0 (height C w n + 1)) n 1 2) n 3 NONE in
    let v₁ = put C (put C v n (row_place 0) (start C w n)) n (child_place 0) c in
    put C (put C v₁ n (row_place 1) s) n (child_place 1) m

-- "Then the root is copied into the first node taken, that copy's end becomes the new row, and the new path follows"
unfoldable pub split_root : Shape → List ℕ → ℕ → ℕ → ℕ → ℕ → List ℕ → List ℕ
split_root C w n s e x [] = w
split_root C w n s e x (c ∷ ns) = new_path C (raised C (put C (copied C w n c) c 3 s) n c s (top_of x ns)) s e x ns

-- page x with rows s to e goes to o
unfoldable pub append_at : Shape → List ℕ → ℕ → ℕ → ℕ → ℕ → Room → List ℕ
append_at C w n s e x o =
    let ns = firsts C w (free_head w) o.needed in
    let v = pick (leb o.needed (height C w n)) (hang C w o.node s e x ns) (split_root C w n s e x ns) in
    taken C w v o.needed

-- The call: "Append: path 2, then 4, 6, 5, then 2 for the chain nodes wanted" ------------------------------

unfoldable pub append_to : Shape → ℕ → List ℕ → ℕ → ℕ → ℕ → Reached → Outcome
append_to C P w n k x (unsound m) = record { answer = refused 2 m; words = w }
append_to C P w n k x (leaf l b) =
    let s = append_start C w l in
    let o = room C w n in
    let refuse : Answer → Outcome = λ a. record { answer = a; words = w } in
    let done : Outcome = record { answer = result (s ∷ (s + k) ∷ o.needed ∷ []); words = append_at C w n s (s + k) x o } in
    let two = pick (chain_sound C P w (free_head w) [] o.needed) done (refuse damaged) in
    let five = pick (ltb (free_count w) o.needed) (refuse (refused 5 o.needed)) two in
    let six = pick (ltb (height C w n) o.needed && eqb (height C w n) max_height) (refuse (refused 6 0)) five in
    pick (eqb k 0 || ltb row_limit (s + k)) (refuse (refused 4 0)) six

unfoldable pub insert_row_page : Arrangement → List ℕ → ℕ → ℕ → Outcome
insert_row_page L w k x =
    let C = store_shape L w in
    let P = pool w in
    let n = root w in
    when_open w (λ (a : Answer). record { answer = a; words = w }) (append_to C P w n k x (root_leaf (to_right C w) C P w n))
