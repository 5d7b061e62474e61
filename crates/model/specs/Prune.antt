-- 01, "Prune (`prune_checkpoint_prefix`)".
use Rattle.std.specs.Prelude.{ℕ, zero, suc, ◌+◌, ◌-◌, List, [], ◌∷◌, ◌++◌, reverse, false, ◌||◌, length, leb, ltb, eqb}
use Rattle.model.specs.Words.{store_shape, Arrangement, Shape, pick, pool, root, free_count, put, emptied, copied, free_all, row_place, child_place, height, count, start, end, row, child}
use Rattle.model.specs.Tree.{Level, level, Open, sound, empty_root, root_sound}
use Rattle.model.specs.Reading.{Visit, Enter, Leave, Bad, visits}
use Rattle.model.specs.Cut.{if_gone, cut_pairs, trim, cut, went_pairs, went, trims, kept}
use Rattle.model.specs.Refusals.{Answer, result, refused, damaged, Outcome, when_open}

-- The writes ---------------------------------------------------------------------------------------------

-- "moves its remaining entries to the front": entries k + i, … of node n, m of them, become entries i, …
unfoldable pub moved : Shape → List ℕ → ℕ → ℕ → ℕ → ℕ → List ℕ
moved C w n k i zero = w
moved C w n k i (suc m) =
    let v = put C (put C w n (row_place i) (row C w n (k + i))) n (child_place i) (child C w n (k + i)) in
    moved C v n k (i + 1) m

-- node n loses its first k entries "and takes the end as its start and first row"
unfoldable pub trimmed : Shape → List ℕ → ℕ → ℕ → ℕ → List ℕ
trimmed C w n k e =
    let left = count C w n - k in
    put C (put C (put C (moved C w n k 0 left) n 1 left) n 2 e) n (row_place 0) e

unfoldable pub trim_all : Shape → List ℕ → ℕ → List (ℕ × ℕ) → List ℕ
trim_all C w e [] = w
trim_all C w e (t ∷ ts) = trim_all C (trimmed C w t.0 t.1 e) e ts

-- "its child is copied into it", one after the other, into root n
unfoldable pub copy_all : Shape → List ℕ → ℕ → List ℕ → List ℕ
copy_all C w n [] = w
copy_all C w n (m ∷ ms) = copy_all C (copied C w m n) n ms

-- "First" trimmed, then copied; or, "If nothing is left, the root is an empty leaf starting at the end". "Last, the
-- nodes other than the root whose rows all went, and those copied into the root, are freed": the latter deepest first
unfoldable pub prune_tree : Shape → List ℕ → ℕ → (h : ℕ) → ℕ → Level (suc h) → List ℕ → List ℕ
prune_tree C w n h e t copies =
    let all = went_pairs (cut h e) (went h e) t.pairs in
    let empty = free_all C (emptied C w n e) all in
    let some = free_all C (copy_all C (trim_all C w e (trims (suc h) e t t.start)) n copies) (all ++ reverse copies) in
    if_gone (trim e t (cut_pairs e (cut h e) t.pairs)) empty some

-- The list against the leaves: "leaf by leaf until the list is used: 2, and for each entry 9, 10; 11; last 10" ------

-- the check so far: refused, or the ids left, their place, and where the last entry named ended
pub data Scan : Type 0 where
  stopped : ℕ → ℕ → Scan
  on : List ℕ → ℕ → ℕ → Scan

-- one entry, page x that ends at c: "page id differs"; "entry ends above the end"
unfoldable pub against : ℕ → ℕ → ℕ → Scan → Scan
against e x c (stopped a d) = stopped a d
against e x c (on [] p c₀) = on [] p c₀
against e x c (on (y ∷ ids) p c₀) = pick (eqb x y) (pick (leb c e) (on ids (p + 1) c) (stopped 10 p)) (stopped 9 p)

-- the end of entry i of leaf n
unfoldable pub entry_end : Shape → List ℕ → ℕ → ℕ → ℕ
entry_end C w n i = pick (ltb (i + 1) (count C w n)) (row C w n (i + 1)) (end C w n)

-- entries i, … of leaf n, k of them
unfoldable pub scan_leaf : Shape → List ℕ → ℕ → ℕ → ℕ → ℕ → Scan → Scan
scan_leaf C w e n i zero s = s
scan_leaf C w e n i (suc k) s = scan_leaf C w e n (i + 1) k (against e (child C w n i) (entry_end C w n i) s)

-- an unsound node counts while ids are left
unfoldable pub spoilt : ℕ → Scan → Scan
spoilt n (stopped a d) = stopped a d
spoilt n (on [] p c) = on [] p c
spoilt n (on (y ∷ ids) p c) = stopped 2 n

unfoldable pub scan : Shape → List ℕ → ℕ → List Visit → Scan → Scan
scan C w e [] s = s
scan C w e (Enter n ∷ vs) s = scan C w e vs (pick (eqb (height C w n) 0) (scan_leaf C w e n 0 (count C w n) s) s)
scan C w e (Leave n ∷ vs) s = scan C w e vs s
scan C w e (Bad n ∷ vs) s = scan C w e vs (spoilt n s)

-- "list longer than the index"; "or the list ends below it (place = its length)"
unfoldable pub ran_out : ℕ → Scan → Scan
ran_out e (stopped a d) = stopped a d
ran_out e (on [] p c) = pick (eqb c e) (on [] p c) (stopped 10 p)
ran_out e (on (y ∷ ids) p c) = stopped 11 p

-- "then 2 for nodes copied into the root" ----------------------------------------------------------------

-- the nodes copied, the top first; or the first unsound one
pub data Copies : Type 0 where
  unsound : ℕ → Copies
  copies : List ℕ → Copies

unfoldable pub before : ℕ → Copies → Copies
before n (unsound m) = unsound m
before n (copies ns) = copies (n ∷ ns)

-- f of the last pair, or a where there is none
unfoldable pub at_last : {K A : Type 0} → (K → ℕ → A) → A → List (ℕ × K) → A
at_last f a [] = a
at_last f a (p ∷ []) = f p.1 p.0
at_last f a (p ∷ q ∷ ps) = at_last f a (q ∷ ps)

-- "While the root is a branch of one entry, its child is copied into it": one entry stays, and it is the last
unfoldable pub copies_from : Shape → ℕ → (h : ℕ) → ℕ → Level (suc h) → ℕ → Copies
copies_from C P zero e t r = copies []
copies_from C P (suc h) e t r =
    let child : Level (suc h) → ℕ → Copies = λ x s.
    let tested = pick (sound C h x s Open) (before x.number (copies_from C P h e x s)) (unsound x.number) in
    pick (ltb x.number P) tested (unsound t.number) in
    pick (eqb (kept (suc h) e t r) 1) (at_last child (copies []) t.pairs) (copies [])

-- "a reset to empty collapses none"
unfoldable pub root_copies : Shape → ℕ → (h : ℕ) → ℕ → Level (suc h) → Copies
root_copies C P h e t =
    let some = copies_from C P h e t t.start in
    if_gone (trim e t (cut_pairs e (cut h e) t.pairs)) (copies []) some

-- The call -----------------------------------------------------------------------------------------------

-- k entries go: "2 where the free count and the nodes to be freed pass P together"
unfoldable pub prune_with : Shape → ℕ → List ℕ → ℕ → (h : ℕ) → ℕ → Level (suc h) → ℕ → Copies → Outcome
prune_with C P w n h e t k (unsound m) = record { answer = refused 2 m; words = w }
prune_with C P w n h e t k (copies ns) =
    let f = length (went_pairs (cut h e) (went h e) t.pairs) + length ns in
    let done : Outcome = record { answer = result (k ∷ f ∷ length ns ∷ []); words = prune_tree C w n h e t ns } in
    pick (leb (free_count w + f) P) done (record { answer = damaged; words = w })

unfoldable pub prune_scanned : Shape → ℕ → List ℕ → ℕ → (h : ℕ) → ℕ → Level (suc h) → Scan → Outcome
prune_scanned C P w n h e t (stopped a d) = record { answer = refused a d; words = w }
prune_scanned C P w n h e t (on ids k c) = prune_with C P w n h e t k (root_copies C P h e t)

-- on a root that holds entries
unfoldable pub prune_root : Shape → ℕ → List ℕ → ℕ → (h : ℕ) → ℕ → List ℕ → Level (suc h) → Outcome
prune_root C P w n h e ids t =
    prune_scanned C P w n h e t (ran_out e (scan C w e (visits false C P (suc h) n t t.start Open) (on ids 0 0)))

-- "Prune: 7, root 2, 8, then leaf by leaf"
unfoldable pub prune_checkpoint_prefix : Arrangement → List ℕ → ℕ → ℕ → List ℕ → Outcome
prune_checkpoint_prefix L w s e ids =
    let C = store_shape L w in
    let P = pool w in
    let n = root w in
    let h = height C w n in
    let refuse : Answer → Outcome = λ a. record { answer = a; words = w } in
    let filled = prune_root C P w n h e ids (level C w (suc h) n) in
    let leaves = pick (empty_root C w n) (refuse (refused 11 0)) filled in
    let eight = pick (eqb s (start C w n)) leaves (refuse (refused 8 (start C w n))) in
    let two = pick (root_sound C w n) eight (refuse (refused 2 n)) in
    when_open w refuse (pick (eqb (length ids) 0 || leb e s) (refuse (refused 7 0)) two)
