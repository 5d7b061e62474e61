-- Demand 1: "a refusal changes nothing it was lent", for every call, on any words and arguments. A step of a walk that
-- gives none changes nothing either.
use Prim.Native.Nat.{ℕ, suc, ◌+◌}
use mathlib.Core.List.{List, [], ◌∷◌}
use mathlib.Core.Bool.{Bool, true, false, not, ◌&&◌, ◌||◌}
use mathlib.Core.Path.{◌≡◌, refl, sym, ap, ◌∙◌, subst}
use lib.ListN.{length}
use lib.Dec.{T, leb, ltb, eqb}
use Rattle.model.specs.Words.{store_shape, Arrangement, Shape, shape, pick, sized, fill, pool, root, free_head, free_count, height, count, start, end, row_limit, max_height}
use Rattle.model.specs.Tree.{Level, level, empty_root, root_sound}
use Rattle.model.specs.Reading as Reading
use Rattle.model.specs.Reading.{Fault, clear, at, unless_bad, first_bad, root_visits, page_ids, root_entries, root_nodes, Reached, leaf, root_leaf, to_row, to_right}
use Rattle.model.specs.Refusals.{Answer, result, refused, damaged, header_ok, when_open, Outcome}
use Rattle.model.specs.Create.{new_store, create}
use Rattle.model.specs.Append.{append_start, room, chain_sound, append_at, append_to, insert_row_page}
use Rattle.model.specs.Cut.{cut, went_pairs, went}
use Rattle.model.specs.Prune as Prune
use Rattle.model.specs.Prune.{Scan, stopped, on, Copies, copies, root_copies, prune_tree, prune_with, prune_scanned, prune_root, prune_checkpoint_prefix}
use Rattle.model.specs.LeafWalk.{Stepped, cursor_at, records, gives_leaf, is_last, given, next_leaf_of}
use Rattle.model.specs.Release.{Released, first_low, released_words, destroy, destroy_empty}
use Rattle.model.specs.declared.node.PageEntry.{PageEntry}
use Rattle.model.specs.declared.cursor.RowPageIndexMemCursor.{RowPageIndexMemCursor}

-- the answers of a call but next that change nothing
unfoldable pub Refuses : Answer → Type 0
Refuses (result l) = ⊥
Refuses (refused a d) = Unit {0}

-- the outcomes of a call, of a type A: the answer of one, which answers change nothing, and the outcome then
record Idle (A : Type 0) : Type 1 where
  answer : A → Answer
  changeless : Answer → Type 0
  same : Answer → A
  back : (x : Answer) → answer (same x) ≡ x

-- an outcome whose answer, where it is one of these, comes with no change
record Still {A : Type 0} (I : Idle A) (o : A) : Type 0 where
  still : (x : Answer) → I.changeless x → I.answer o ≡ x → o ≡ I.same x

module _ {A : Type 0} (I : Idle A) where
  either : (t : Bool) {x y : A} → Still I x → Still I y → Still I (pick t x y)
  either true f g = f
  either false f g = g

  unless : (f : Fault) {g : ℕ → A} {y : A} → ((n : ℕ) → Still I (g n)) → Still I y → Still I (unless_bad f g y)
  unless clear p q = q
  unless (at n) p q = p n

  -- an answer that changes nothing, and an outcome with another answer
  says : (y : Answer) → Still I (I.same y)
  says y = record { still = λ x q p. ap I.same (sym (I.back y) ∙ p) }

  does : (o : A) → (I.changeless (I.answer o) → ⊥) → Still I o
  does o f = record { still = λ x q p. absurd (f (subst I.changeless (sym p) q)) }

  opens : (w : List ℕ) {x : A} → Still I x → Still I (when_open w I.same x)
  opens w k = either (header_ok w) (either (eqb (root w) (pool w)) (says (refused 3 0)) k) (says damaged)

-- Calls that are lent words alone -------------------------------------------------------------------------

module _ (w : List ℕ) where
  abbrev words : Idle Outcome
  words = record { answer = λ o. o.answer; changeless = Refuses; same = λ a. record { answer = a; words = w }; back = λ x. refl }

  abbrev unchanged : Outcome → Type 0
  unchanged o = (a d : ℕ) → o.answer ≡ refused a d → o ≡ record { answer = refused a d; words = w }

  refuses : (o : Outcome) → Still words o → unchanged o
  unfolding Refuses
  refuses o k a d e = k.still (refused a d) tt e

  accepts : (l v : List ℕ) → Still words (record { answer = result l; words = v })
  unfolding Refuses
  accepts l v = does words (record { answer = result l; words = v }) (λ q. q)

  pub create-still : (L : Arrangement) (C P s : ℕ) → unchanged (create L w C P s)
  unfolding create
  create-still L C P s =
      refuses (create L w C P s)
      (either words (sized C P (length w)) (either words (leb s row_limit) (accepts [] (new_store (shape L C) P s w)) (says words (refused 4 0))) (says words (refused 1 0)))

  append-still : (C : Shape) (P n k x : ℕ) (r : Reached) → Still words (append_to C P w n k x r)
  unfolding append_to
  append-still C P n k x (Reading.unsound m) = says words (refused 2 m)
  append-still C P n k x (leaf l b) =
      let s = append_start C w l in
      let o = room C w n in
      either words (eqb k 0 || ltb row_limit (s + k)) (says words (refused 4 0))
      (either words (ltb (height C w n) o.needed && eqb (height C w n) max_height) (says words (refused 6 0))
      (either words (ltb (free_count w) o.needed) (says words (refused 5 o.needed))
      (either words (chain_sound C P w (free_head w) [] o.needed) (accepts (s ∷ (s + k) ∷ o.needed ∷ []) (append_at C w n s (s + k) x o)) (says words damaged))))

  pub insert_still : (L : Arrangement) (k x : ℕ) → unchanged (insert_row_page L w k x)
  unfolding insert_row_page
  insert_still L k x =
      let C = store_shape L w in
      refuses (insert_row_page L w k x) (opens words w (append-still C (pool w) (root w) k x (root_leaf (to_right C w) C (pool w) w (root w))))

  with_still : (C : Shape) (P n h e : ℕ) (t : Level (suc h)) (k : ℕ) (c : Copies) → Still words (prune_with C P w n h e t k c)
  unfolding prune_with
  with_still C P n h e t k (Prune.unsound m) = says words (refused 2 m)
  with_still C P n h e t k (copies ns) =
      let f = length (went_pairs (cut h e) (went h e) t.pairs) + length ns in
      either words (leb (free_count w + f) P) (accepts (k ∷ f ∷ length ns ∷ []) (prune_tree C w n h e t ns)) (says words damaged)

  scanned_still : (C : Shape) (P n h e : ℕ) (t : Level (suc h)) (s : Scan) → Still words (prune_scanned C P w n h e t s)
  unfolding prune_scanned
  scanned_still C P n h e t (stopped a d) = says words (refused a d)
  scanned_still C P n h e t (on ids k c) = with_still C P n h e t k (root_copies C P h e t)

  pub prune-still : (L : Arrangement) (s e : ℕ) (ids : List ℕ) → unchanged (prune_checkpoint_prefix L w s e ids)
  unfolding prune_checkpoint_prefix prune_root
  prune-still L s e ids =
      let C = store_shape L w in
      let n = root w in
      let h = height C w n in
      refuses (prune_checkpoint_prefix L w s e ids)
      (opens words w
      (either words (eqb (length ids) 0 || leb e s) (says words (refused 7 0))
      (either words (root_sound C w n)
      (either words (eqb s (start C w n))
      (either words (empty_root C w n) (says words (refused 11 0)) (scanned_still C (pool w) n h e (level C w (suc h) n) _))
      (says words (refused 8 (start C w n))))
      (says words (refused 2 n)))))

  pub empty_still : (L : Arrangement) → unchanged (destroy_empty L w)
  unfolding destroy_empty
  empty_still L =
      let C = store_shape L w in
      let n = root w in
      refuses (destroy_empty L w)
      (opens words w
      (either words (root_sound C w n)
      (either words (empty_root C w n)
      (either words (leb (free_count w + 1) (pool w)) (accepts (1 ∷ 0 ∷ []) (released_words C (pool w) w (n ∷ []))) (says words damaged))
      (says words (refused 12 0)))
      (says words (refused 2 n))))

-- Release: a list beside the words ------------------------------------------------------------------------

module _ (w l : List ℕ) where
  abbrev pages : Idle Released
  pages = record { answer = λ o. o.answer; changeless = Refuses; same = λ a. record { answer = a; words = w; list = l }; back = λ x. refl }

  pub destroy-still : (L : Arrangement) (v a d : ℕ) → (destroy L w v l).answer ≡ refused a d → destroy L w v l ≡ record { answer = refused a d; words = w; list = l }
  unfolding destroy Refuses
  destroy-still L v a d e =
      let C = store_shape L w in
      let n = root w in
      let es = root_entries C w n in
      let ns = root_nodes C w n in
      let done : Released = record { answer = result (length ns ∷ length es ∷ []); words = released_words C (pool w) w ns; list = fill l 0 (page_ids es) } in
      let all : Still pages (destroy L w v l) =
      (opens pages w
      (unless pages (first_bad (root_visits false C (pool w) w n)) (λ m. says pages (refused 2 m))
      (unless pages (first_low v es) (λ r. says pages (refused 12 r))
      (either pages (leb (length es) (length l))
      (either pages (leb (free_count w + length ns) (pool w)) (does pages done (λ q. q)) (says pages damaged))
      (says pages (refused 13 (length es))))))) in
      all.still (refused a d) tt e

-- Next: a cursor and a list of records ------------------------------------------------------------------------

module _ (w : List ℕ) (c : RowPageIndexMemCursor) (l : List PageEntry) where
  abbrev walk : Idle Stepped
  walk = record { answer = λ o. o.answer; changeless = λ x. T (not (gives_leaf x)); same = λ a. record { answer = a; cursor = c; list = l }; back = λ x. refl }

  given-still : (C : Shape) (r : Reached) → Still walk (given C w c l r)
  unfolding given gives_leaf
  given-still C (Reading.unsound n) = says walk (refused 2 n)
  given-still C (leaf n b) =
      does walk (record { answer = result (start C w n ∷ end C w n ∷ count C w n ∷ []); cursor = cursor_at (end C w n) (is_last b); list = fill l 0 (records C w n 0 (count C w n)) }) (λ q. q)

  pub next-still : (L : Arrangement) (x : Answer) → T (not (gives_leaf x)) → (next_leaf_of L w c l).answer ≡ x → next_leaf_of L w c l ≡ record { answer = x; cursor = c; list = l }
  unfolding next_leaf_of
  next-still L =
      let C = store_shape L w in
      let all : Still walk (next_leaf_of L w c l) =
      opens walk w
      (either walk (ltb (length l) C.cap) (says walk (refused 13 C.cap))
      (either walk c.done (says walk (result [])) (given-still C (root_leaf (to_row C w c.row_id.0) C (pool w) w (root w))))) in
      all.still
