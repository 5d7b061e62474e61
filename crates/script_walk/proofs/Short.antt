-- The lines of a record take at most 65,536 bytes, on any words, where there are at most 4,096 of them.
use Prim.Native.Nat.{ℕ, zero, suc, ◌+◌, ◌*◌, ◌/◌, ◌%◌, ◌≤◌}
use mathlib.Core.Path.{◌≡◌, refl}
use mathlib.Core.List.{List, [], ◌∷◌, ◌++◌}
use mathlib.Core.Bool.{true, false, ◌&&◌, ◌||◌}
use native.Mathlib.Omega.{arith}
use lib.ListN.{length, take, length-append, length-take}
use lib.Dec.{leb, ltb, eqb}
use Rattle.model.specs.Words.{store_shape, lent, Shape, capacity, pool, root, free_head, free_count, height, count, start, end, store_length, capacity_ok, pool_ok, row_limit, max_height}
use Rattle.model.specs.Tree.{Level, empty_root, root_sound, level}
use Rattle.model.specs.Reading.{Fault, clear, at, unless_bad, first_bad, root_visits, Reached, unsound, leaf, root_leaf, to_row, to_right, root_entries, root_nodes}
use Rattle.model.specs.Refusals.{Answer, result, refused, header_ok}
use Rattle.model.specs.Create.{create}
use Rattle.model.specs.Append.{append_start, room, chain_sound, append_to, insert_row_page}
use Rattle.model.specs.Lookup.{found_in, find_in_tree, try_find_row}
use Rattle.model.specs.Cut.{cut, went_pairs, went}
use Rattle.model.specs.Prune.{Scan, stopped, on, Copies, copies, root_copies, prune_with, prune_scanned, prune_root, prune_checkpoint_prefix}
use Rattle.model.specs.Prune as Pr
use Rattle.model.specs.LeafWalk.{seek, given, next_leaf_of, gives_leaf}
use Rattle.model.specs.Release.{Released, first_low, destroy}
use Rattle.model.specs.declared.node.PageEntry.{PageEntry}
use Rattle.model.specs.declared.cursor.RowPageIndexMemCursor.{RowPageIndexMemCursor}
use Rattle.model.proofs.Tests.{by_test}
use Rattle.model.proofs.Words.{nodes-few}
use Rattle.model.proofs.Header.{header_of}
use Rattle.script_text.specs.Lines.{digits_of, decimal, numbers, line, digit}
use Rattle.script_records.specs.Records.{Request, Create, Append, Find, Prune, Walk, Release, Bad}
use Rattle.answer_line.specs.Names.{create_name, append_name, page_name, none_name, prune_name, leaf_name, end_name, release_name, no_name, bad_record_name}
use Rattle.answer_line.specs.Answers.{answer_line, leaf_line}
use Rattle.script_calls.specs.Calls.{lent_records, lent_pages, walk_lines, Memory, create_length, perform}
use Rattle.script_walk.proofs.Bound.{left, left-some, above-few, falls}

-- Lines --------------------------------------------------------------------------------------------------

digits_few : (k n : ℕ) → length (digits_of k n) ≤ k
unfolding digits_of
digits_few zero n = omega arith
digits_few (suc k) n =
    by_test (ltb n 10)
    (λ t. rw t (omega arith))
    (λ t. rw t (omega (arith, length-append (digits_of k (n / 10)) (digit (n % 10) ∷ []), digits_few k (n / 10))))

numbers-short : (vs : List ℕ) → length (numbers vs) ≤ 21 * length vs
unfolding numbers decimal
numbers-short [] = omega arith
numbers-short (v ∷ vs) = omega (arith, length-append (decimal v) (numbers vs), digits_few 20 v, numbers-short vs)

pub line-short : (word vs : List ℕ) → length (line word vs) ≤ length word + 21 * length vs + 1
unfolding line
line-short word vs = omega (arith, length-append word (numbers vs ++ (10 ∷ [])), length-append (numbers vs) (10 ∷ []), numbers-short vs)

-- Answers: at most three values ------------------------------------------------------------------------------

abbrev values : Answer → ℕ
values (result vs) = length vs
values (refused number detail) = 2

abbrev few : Answer → Type 0
few a = values a ≤ 3

create-few : (w : List ℕ) (C P s : ℕ) → few (create lent w C P s).answer
unfolding create
create-few w C P s =
    by_test (capacity_ok C && pool_ok P && eqb (length w) (store_length C P))
    (λ t. by_test (leb s row_limit) (λ u. rw (t, u) (omega arith)) (λ u. rw (t, u) (omega arith)))
    (λ t. rw t (omega arith))

module _ (C : Shape) (P : ℕ) (w : List ℕ) (n : ℕ) where
  append_to-few : (k x : ℕ) (r : Reached) → few (append_to C P w n k x r).answer
  unfolding append_to
  append_to-few k x (unsound m) = omega arith
  append_to-few k x (leaf l b) =
      let s = append_start C w l in
      let o = room C w n in
      by_test (eqb k 0 || ltb row_limit (s + k))
      (λ t. rw t (omega arith))
      (λ t. by_test (ltb (height C w n) o.needed && eqb (height C w n) max_height)
      (λ u. rw (t, u) (omega arith))
      (λ u. by_test (ltb (free_count w) o.needed)
      (λ v. rw (t, u, v) (omega arith))
      (λ v. by_test (chain_sound C P w (free_head w) [] o.needed)
      (λ z. rw (t, u, v, z) (omega arith))
      (λ z. rw (t, u, v, z) (omega arith)))))

  found-few : (q : ℕ) (r : Reached) → few (found_in C w q r)
  unfolding found_in
  found-few q (unsound m) = omega arith
  found-few q (leaf l b) =
      by_test (ltb 0 (count C w l) && ltb q (end C w l)) (λ t. rw t (omega arith)) (λ t. rw t (omega arith))

  tree-few : (q : ℕ) → few (find_in_tree C P w n q)
  unfolding find_in_tree
  tree-few q =
      by_test (ltb q (start C w n))
      (λ t. by_test (root_sound C w n) (λ u. rw (t, u) (omega arith)) (λ u. rw (t, u) (omega arith)))
      (λ t. rw t (found-few q (root_leaf (to_row C w q) C P w n)))

  with_few : (h e : ℕ) (t : Level (suc h)) (k : ℕ) (c : Copies) → few (prune_with C P w n h e t k c).answer
  unfolding prune_with
  with_few h e t k (Pr.unsound m) = omega arith
  with_few h e t k (copies ns) =
      by_test (leb (free_count w + (length (went_pairs (cut h e) (went h e) t.pairs) + length ns)) P)
      (λ u. rw u (omega arith))
      (λ u. rw u (omega arith))

  scanned_few : (h e : ℕ) (t : Level (suc h)) (s : Scan) → few (prune_scanned C P w n h e t s).answer
  unfolding prune_scanned
  scanned_few h e t (stopped a d) = omega arith
  scanned_few h e t (on ids k c) = with_few h e t k (root_copies C P h e t)

  root-few : (h e : ℕ) (ids : List ℕ) (t : Level (suc h)) → few (prune_root C P w n h e ids t).answer
  unfolding prune_root
  root-few h e ids t = scanned_few h e t _

append-few : (w : List ℕ) (k x : ℕ) → few (insert_row_page lent w k x).answer
unfolding insert_row_page
append-few w k x =
    by_test (header_ok w)
    (λ t. by_test (eqb (root w) (pool w))
    (λ u. rw (t, u) (omega arith))
    (λ u. rw (t, u) (append_to-few (store_shape lent w) (pool w) w (root w) k x (root_leaf (to_right (store_shape lent w) w) (store_shape lent w) (pool w) w (root w)))))
    (λ t. rw t (omega arith))

find-few : (w : List ℕ) (q : ℕ) → few (try_find_row lent w q)
unfolding try_find_row
find-few w q =
    by_test (header_ok w)
    (λ t. by_test (eqb (root w) (pool w)) (λ u. rw (t, u) (omega arith)) (λ u. rw (t, u) (tree-few (store_shape lent w) (pool w) w (root w) q)))
    (λ t. rw t (omega arith))

prune-few : (w : List ℕ) (s e : ℕ) (ids : List ℕ) → few (prune_checkpoint_prefix lent w s e ids).answer
unfolding prune_checkpoint_prefix
prune-few w s e ids =
    let C = store_shape lent w in
    let n = root w in
    let h = height C w n in
    by_test (header_ok w)
    (λ t₁. by_test (eqb n (pool w))
    (λ t₂. rw (t₁, t₂) (omega arith))
    (λ t₂. by_test (eqb (length ids) 0 || leb e s)
    (λ t₃. rw (t₁, t₂, t₃) (omega arith))
    (λ t₃. by_test (root_sound C w n)
    (λ t₄. by_test (eqb s (start C w n))
    (λ t₅. by_test (empty_root C w n)
    (λ t₆. rw (t₁, t₂, t₃, t₄, t₅, t₆) (omega arith))
    (λ t₆. rw (t₁, t₂, t₃, t₄, t₅, t₆) (root-few C (pool w) w n h e ids (level C w (suc h) n))))
    (λ t₅. rw (t₁, t₂, t₃, t₄, t₅) (omega arith)))
    (λ t₄. rw (t₁, t₂, t₃, t₄) (omega arith)))))
    (λ t₁. rw t₁ (omega arith))

two : 2 ≤ 3
two = omega arith

unless : (f : Fault) (g : ℕ → Released) (a : Released) → ((m : ℕ) → few (g m).answer) → (f ≡ clear → few a.answer) → few (unless_bad f g a).answer
unless clear g a p q = q refl
unless (at m) g a p q = p m

release-few : (w : List ℕ) (v : ℕ) (l : List ℕ) → few (destroy lent w v l).answer
unfolding destroy
release-few w v l =
    let C = store_shape lent w in
    let es = root_entries C w (root w) in
    let ns = root_nodes C w (root w) in
    by_test (header_ok w)
    (λ t. by_test (eqb (root w) (pool w))
    (λ u. rw (t, u) (omega arith))
    (λ u. rw (t, u)
    (unless (first_bad (root_visits false C (pool w) w (root w))) _ _ (λ m. two) (λ y.
    unless (first_low v es) _ _ (λ m. two) (λ z.
    by_test (leb (length es) (length l))
    (λ t₁. by_test (leb (free_count w + length ns) (pool w)) (λ t₂. rw (t₁, t₂) (omega arith)) (λ t₂. rw (t₁, t₂) (omega arith)))
    (λ t₁. rw t₁ (omega arith)))))))
    (λ t. rw t (omega arith))

given-few : (C : Shape) (w : List ℕ) (c : RowPageIndexMemCursor) (l : List PageEntry) (r : Reached) → few (given C w c l r).answer
unfolding given
given-few C w c l (unsound m) = omega arith
given-few C w c l (leaf n b) = omega arith

next-few : (w : List ℕ) (c : RowPageIndexMemCursor) (l : List PageEntry) → few (next_leaf_of lent w c l).answer
unfolding next_leaf_of
next-few w c l =
    by_test (header_ok w)
    (λ t₁. by_test (eqb (root w) (pool w))
    (λ t₂. rw (t₁, t₂) (omega arith))
    (λ t₂. by_test (ltb (length l) (capacity w))
    (λ t₃. rw (t₁, t₂, t₃) (omega arith))
    (λ t₃. by_test c.done
    (λ t₄. rw (t₁, t₂, t₃, t₄) (omega arith))
    (λ t₄. rw (t₁, t₂, t₃, t₄) (given-few (store_shape lent w) w _ l (root_leaf (to_row (store_shape lent w) w c.row_id.0) (store_shape lent w) (pool w) w (root w)))))))
    (λ t₁. rw t₁ (omega arith))

-- the longest name has seven letters
answer-short : (given none : List ℕ) (a : Answer) → length given ≤ 7 → length none ≤ 7 → few a → length (answer_line given none a) ≤ 71
unfolding answer_line
answer-short given none (result []) g z f = omega (arith, line-short none [])
answer-short given none (result (v ∷ vs)) g z f = omega (arith, line-short given (v ∷ vs))
answer-short given none (refused x d) g z f = omega (arith, line-short no_name (x ∷ d ∷ []))

answer-fits : (given none : List ℕ) (a : Answer) → length given ≤ 7 → length none ≤ 7 → few a → length (answer_line given none a) ≤ 65536
answer-fits given none a g z f = omega (arith, answer-short given none a g z f)

-- Walks ----------------------------------------------------------------------------------------------------

-- a line for each step that is left
walk-lines : (w : List ℕ) (k : ℕ) (c : RowPageIndexMemCursor) → length (walk_lines w k c) ≤ 71 * left w c
unfolding walk_lines
walk-lines w zero c = omega arith
walk-lines w (suc k) c =
    let s = next_leaf_of lent w c lent_records in
    let f = next-few w c lent_records in
    let short = answer-short leaf_name end_name s.answer (omega arith) (omega arith) f in
    by_test (gives_leaf s.answer)
    (λ t. rw t (omega (arith, length-append (leaf_line s.answer) (walk_lines w k s.cursor), walk-lines w k s.cursor, falls w c lent_records t)))
    (λ t. rw t (omega (arith, length-append (leaf_line s.answer) [], left-some w c)))

pool-small : (w : List ℕ) → length w ≤ 4096 → header_ok w ≡ true → pool w ≤ 511
pool-small w h t =
    let fits = (header_of w t).fits in
    omega (arith, nodes-few (capacity w) (pool w) w fits)

left-small : (w : List ℕ) (c : RowPageIndexMemCursor) → length w ≤ 4096 → left w c ≤ 513
left-small w c h =
    by_test (header_ok w)
    (λ t. let few = above-few (store_shape lent w) w c.row_id.0 (pool w) in
    let small = pool-small w h t in
    by_test c.done (λ u. rw (t, u) (omega arith)) (λ u. rw (t, u) (omega arith)))
    (λ t. rw t (omega arith))

walk-short : (w : List ℕ) (k : ℕ) (c : RowPageIndexMemCursor) → length w ≤ 4096 → length (walk_lines w k c) ≤ 65536
walk-short w k c h = omega (arith, walk-lines w k c, left-small w c h)

-- Records --------------------------------------------------------------------------------------------------

module _ (m : Memory) (small : length m.words ≤ 4096) where
  part_small : length (take m.used m.words) ≤ 4096
  part_small = omega (arith, length-take m.used m.words)

  pub short : (c : Request) → length (perform m c).lines ≤ 65536
  unfolding perform
  short (Create C P s) = answer-fits create_name create_name _ (omega arith) (omega arith) (create-few (take (create_length (length m.words) C P) m.words) C P s)
  short (Append k x) = answer-fits append_name append_name _ (omega arith) (omega arith) (append-few (take m.used m.words) k x)
  short (Find q) = answer-fits page_name none_name _ (omega arith) (omega arith) (find-few (take m.used m.words) q)
  short (Prune s e ids) = answer-fits prune_name prune_name _ (omega arith) (omega arith) (prune-few (take m.used m.words) s e ids)
  short (Walk q) = walk-short (take m.used m.words) _ (seek q) part_small
  short (Release v) = answer-fits release_name release_name _ (omega arith) (omega arith) (release-few (take m.used m.words) v lent_pages)
  short Bad = omega (arith, line-short bad_record_name [])
