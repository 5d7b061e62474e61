-- A walk ends on any words: each leaf but the last ends above the row that the walk came with, and the next one is sought
-- for that end. So the nodes that end above the row kept get fewer.
use Prim.Native.Nat.{ℕ, zero, suc, ◌+◌, ◌-◌, ◌≤◌, ◌<◌}
use mathlib.Core.Path.{◌≡◌, refl, sym, ◌∙◌, ap, subst}
use mathlib.Core.List.{List}
use mathlib.Core.Bool.{Bool, true, false}
use native.Mathlib.Omega.{arith}
use lib.ListN.{length}
use lib.Dec.{leb, ltb, eqb}
use borrow.Author.Tests.{ltb-true, ltb-false, leb-false, lt-ltb, le-ltb, eqb-true, eqb-false}
use Rattle.model.specs.Words.{store_shape, lent, Shape, pick, capacity, pool, root, height, count, start, end, row, child, row_limit, max_height}
use Rattle.model.specs.Tree.{Limit, Open, Below, node_at, end_sound, sound, empty_root, Under}
use Rattle.model.specs.Reading.{Reached, unsound, leaf, next_row, checked, descend, root_leaf, last_not_above, to_row}
use Rattle.model.specs.Refusals.{header_ok}
use Rattle.model.specs.LeafWalk.{cursor_at, is_last, given, next_leaf_of, gives_leaf}
use Rattle.model.specs.declared.node.PageEntry.{PageEntry}
use Rattle.model.specs.declared.cursor.RowPageIndexMemCursor.{RowPageIndexMemCursor}
use Rattle.model.proofs.Sound.{sound-ends, meets-is}
use Rattle.model.proofs.Words.{nodes-few}
use Rattle.model.proofs.Header.{header_of}
use Rattle.model.proofs.Tests.{by_test, holds}
use Rattle.script_text.specs.Lines.{Put}
use Rattle.script_text.specs.declared.Lines.{Lines}
use Rattle.answer_line.specs.Answers.{leaf_lines}
use Rattle.script_calls.specs.Calls.{lent_records, walk_lines}
use Rattle.script_walk.proofs.Walking.{Walks, walks-on, walks-out}

differ : {A : Type 0} → false ≡ true → A
differ e = let z : ◌≡◌ {A = ℕ} 0 1 = cc in absurd (omega arith)

-- how many of the first k nodes end above row q
unfoldable pub end_above : Shape → List ℕ → ℕ → ℕ → ℕ
end_above C w q zero = 0
end_above C w q (suc k) = pick (ltb q (end C w k)) 1 0 + end_above C w q k

module _ (C : Shape) (w : List ℕ) where
  pub above-few : (q k : ℕ) → end_above C w q k ≤ k
  unfolding end_above
  above-few q zero = omega arith
  above-few q (suc k) =
      let h = above-few q k in by_test (ltb q (end C w k)) (λ t. rw t (omega arith)) (λ t. rw t (omega arith))

  one_fewer : (q e k : ℕ) → q ≤ e → pick (ltb e (end C w k)) 1 0 ≤ pick (ltb q (end C w k)) 1 0
  one_fewer q e k h =
      by_test (ltb e (end C w k))
      (λ t. rw (t, lt-ltb q (end C w k) (omega (arith, ltb-true e (end C w k) t))) (omega arith))
      (λ t. rw t (omega arith))

  above-less : (q e k : ℕ) → q ≤ e → end_above C w e k ≤ end_above C w q k
  unfolding end_above
  above-less q e zero h = omega arith
  above-less q e (suc k) h = omega (arith, one_fewer q e k h, above-less q e k h)

  -- node n ends at e, and counts no more
  above-falls : (q e n k : ℕ) → n < k → q < e → end C w n ≡ e → end_above C w e k < end_above C w q k
  unfolding end_above
  above-falls q e n zero l h i = absurd (omega arith)
  above-falls q e n (suc k) l h i =
      by_test (eqb n k)
      (λ t.
      let m : n ≡ k = eqb-true n k t in
      let i' : end C w k ≡ e = subst (λ (x : ℕ). end C w x ≡ e) m i in
      let no : ltb e (end C w k) ≡ false = le-ltb e (end C w k) (omega arith) in
      let yes' : ltb q (end C w k) ≡ true = lt-ltb q (end C w k) (omega arith) in
      rw (no, yes') (omega (arith, above-less q e k (omega arith))))
      (λ t. omega (arith, one_fewer q e k (omega arith), above-falls q e n k (omega (arith, eqb-false n k t)) h i))

-- the steps that a cursor has left, at most: one where the store is refused
abbrev pub left : List ℕ → RowPageIndexMemCursor → ℕ
left w c = pick (header_ok w) (pick c.done 1 (2 + end_above (store_shape lent w) w c.row_id.0 (pool w))) 1

pub left-some : (w : List ℕ) (c : RowPageIndexMemCursor) → 1 ≤ left w c
left-some w c = by_test (header_ok w) (λ h. by_test c.done (λ t. rw (h, t) (omega arith)) (λ t. rw (h, t) (omega arith))) (λ h. rw h (omega arith))

module _ (C : Shape) (w : List ℕ) (q : ℕ) where
  -- the row after the place of q is above q
  place-past : (n k i : ℕ) → last_not_above C w q n k ≡ i → i + 1 < k → q < row C w n (i + 1)
  unfolding last_not_above
  place-past n zero i e h = absurd (omega arith)
  place-past n (suc k) i e h =
      by_test (leb (row C w n k) q)
      (λ t. let f : k ≡ i = rw t at e in absurd (omega arith))
      (λ t. let f : last_not_above C w q n k ≡ i = rw t at e in
      by_test (ltb (i + 1) k)
      (λ u. place-past n k i f (ltb-true (i + 1) k u))
      (λ u. let g : k ≡ i + 1 = omega (arith, ltb-false (i + 1) k u) in subst (λ (x : ℕ). q < row C w n x) g (leb-false (row C w n k) q t)))

  next_under : (n : ℕ) (b : Limit) → Under q b → Under q (next_row C w n (to_row C w q n) b)
  unfolding next_row Under
  next_under n b u =
      by_test (ltb (to_row C w q n + 1) (count C w n))
      (λ t. rw t (place-past n (count C w n) (to_row C w q n) refl (ltb-true (to_row C w q n + 1) (count C w n) t)))
      (λ t. rw t u)

  module _ (P n e : ℕ) where
    record Rises : Type 0 where
      above : q < e
      ends : end C w n ≡ e
      inside : n < P

    at_leaf : (r : ℕ) → n < P → q < e → sound C 0 (node_at C w n) r (Below e) ≡ true → Rises
    unfolding end_sound
    at_leaf r l u s =
        let x = sound-ends C 0 (node_at C w n) r (Below e) (holds _ s) in
        record { above = u; ends = meets-is (ltb x.0 (end C w n)) (leb (end C w n) row_limit) (end C w n) e x.1; inside = l }

    no_leaf_lem : {A : Type 0} (m : ℕ) → unsound m ≡ leaf n (Below e) → A
    no_leaf_lem m z = let y : ◌≡◌ {A = ℕ} 0 1 = cc in absurd (omega arith)

    path-rises : (h m k r : ℕ) (c : Limit) → Under q c → descend (to_row C w q) C P w h m k r c ≡ leaf n (Below e) → Rises
    unfolding descend checked Under
    path-rises zero m k r c u z =
        by_test (ltb k P)
        (λ t. by_test (sound C 0 (node_at C w k) r c)
        (λ s. let y : leaf k c ≡ leaf n (Below e) = rw (t, s) at z in
        let i : k ≡ n = cc in let d : c ≡ Below e = cc in
        at_leaf r (subst (λ (x : ℕ). x < P) i (ltb-true k P t)) (subst (Under q) d u) (subst (λ (v : Limit). sound C 0 (node_at C w n) r v ≡ true) d (subst (λ (x : ℕ). sound C 0 (node_at C w x) r c ≡ true) i s)))
        (λ s. no_leaf_lem k (rw (t, s) at z)))
        (λ t. no_leaf_lem m (rw t at z))
    path-rises (suc h) m k r c u z =
        by_test (ltb k P)
        (λ t. by_test (sound C (suc h) (node_at C w k) r c)
        (λ s. let i = to_row C w q k in path-rises h k (child C w k i) (row C w k i) (next_row C w k i c) (next_under k c u) (rw (t, s) at z))
        (λ s. no_leaf_lem k (rw (t, s) at z)))
        (λ t. no_leaf_lem m (rw t at z))

    root-rises : (k : ℕ) → root_leaf (to_row C w q) C P w k ≡ leaf n (Below e) → Rises
    unfolding root_leaf Under
    root-rises k z =
        by_test (empty_root C w k)
        (λ t. let y : leaf k Open ≡ leaf n (Below e) = rw t at z in let v : ◌≡◌ {A = ℕ} 0 1 = cc in absurd (omega arith))
        (λ t. by_test (leb (height C w k) max_height)
        (λ u. path-rises (height C w k) k k (start C w k) Open tt (rw (t, u) at z))
        (λ u. no_leaf_lem k (rw (t, u) at z)))

  given-left : (P : ℕ) (d : Bool) (l : List PageEntry) (x : Reached) → ((n e : ℕ) → x ≡ leaf n (Below e) → Rises P n e) → gives_leaf (given C w (cursor_at q d) l x).answer ≡ true → pick (given C w (cursor_at q d) l x).cursor.done 1 (2 + end_above C w (given C w (cursor_at q d) l x).cursor.row_id.0 P) < 2 + end_above C w q P
  unfolding given gives_leaf is_last
  given-left P d l (unsound n) f g = differ g
  given-left P d l (leaf n Open) f g = omega arith
  given-left P d l (leaf n (Below e)) f g =
      let y = f n e refl in omega (arith, above-falls C w q (end C w n) n P y.inside (omega (arith, y.above, y.ends)) refl)

-- a step that gives a leaf leaves fewer
pub falls : (w : List ℕ) (c : RowPageIndexMemCursor) (l : List PageEntry) → gives_leaf (next_leaf_of lent w c l).answer ≡ true → left w (next_leaf_of lent w c l).cursor < left w c
unfolding next_leaf_of gives_leaf
falls w c l g =
    let q = c.row_id.0 in
    by_test (header_ok w)
    (λ a. by_test (eqb (root w) (pool w))
    (λ b. differ (rw (a, b) at g))
    (λ b. by_test (ltb (length l) (capacity w))
    (λ d. differ (rw (a, b, d) at g))
    (λ d. by_test c.done
    (λ e. differ (rw (a, b, d, e) at g))
    (λ e. rw (a, b, d, e) (given-left (store_shape lent w) w q (pool w) false l (root_leaf (to_row (store_shape lent w) w q) (store_shape lent w) (pool w) w (root w))
    (λ n x z. root-rises (store_shape lent w) w q (pool w) n x (root w) z) (rw (a, b, d, e) at g))))))
    (λ a. differ (rw a at g))

-- no store has as many nodes as words
pub left-bound : (w : List ℕ) (c : RowPageIndexMemCursor) → left w c ≤ length w + 1
left-bound w c =
    by_test (header_ok w)
    (λ h. let few = above-few (store_shape lent w) w c.row_id.0 (pool w) in
    let fits = (header_of w h).fits in
    let many = nodes-few (capacity w) (pool w) w fits in
    by_test c.done (λ t. rw (h, t) (omega arith)) (λ t. rw (h, t) (omega arith)))
    (λ h. rw h (omega arith))

-- more steps than are left give the same lines
pub enough : (w : List ℕ) (j k : ℕ) (c : RowPageIndexMemCursor) → left w c ≤ j → left w c ≤ k → walk_lines w j c ≡ walk_lines w k c
unfolding walk_lines
enough w zero k c h l = absurd (omega (arith, left-some w c))
enough w (suc j) zero c h l = absurd (omega (arith, left-some w c))
enough w (suc j) (suc k) c h l =
    let s = next_leaf_of lent w c lent_records in
    by_test (gives_leaf s.answer)
    (λ t. let f = falls w c lent_records t in ap (λ (more : List ℕ). leaf_lines s.answer more) (enough w j k s.cursor (omega arith) (omega arith)))
    (λ t. rw t)

-- A turn of a walk ----------------------------------------------------------------------------------------

module _ (s : List ℕ) (c : RowPageIndexMemCursor) {l l₁ : Lines} {c₁ : RowPageIndexMemCursor} {goes : Bool} (w : Walks (next_leaf_of lent s c lent_records) l c₁ goes l₁) where
  one_of : left s c ≡ suc (left s c - 1)
  one_of = omega (arith, left-some s c)

  pub ends : goes ≡ false → Put l (walk_lines s (left s c) c) l₁
  ends g = subst (λ (k : ℕ). Put l (walk_lines s k c) l₁) (sym one_of) (walks-out s c (left s c - 1) w g)

  pub fewer : goes ≡ true → left s c₁ < left s c
  fewer g = subst (λ (d : RowPageIndexMemCursor). left s d < left s c) (sym w.cursor) (falls s c lent_records (sym w.goes ∙ g))

  pub goes_on : goes ≡ true → (l₂ : Lines) → Put l₁ (walk_lines s (left s c₁) c₁) l₂ → Put l (walk_lines s (left s c) c) l₂
  goes_on g l₂ p =
      let f = fewer g in
      let e = enough s (left s c₁) (left s c - 1) c₁ (omega arith) (omega arith) in
      subst (λ (k : ℕ). Put l (walk_lines s k c) l₂) (sym one_of)
      (walks-on s c (left s c - 1) w g l₂ (subst (λ (ls : List ℕ). Put l₁ ls l₂) e p))
