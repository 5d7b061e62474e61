-- What a sound right edge is known by, and the room on it.
use Prim.Native.Nat.{ℕ, zero, suc, ◌+◌, ◌<◌, ◌≤◌}
use mathlib.Core.List.{List}
use mathlib.Core.Bool.{true}
use mathlib.Core.Path.{◌≡◌, refl, sym, ap, ◌∙◌, subst}
use mathlib.Core.Logic.{⊎_elim, ◌⊎◌, inl, inr, ◌≢◌}
use native.Mathlib.Omega.{arith}
use lib.ListN.{get_or}
use lib.Dec.{leb, ltb, leb→le, eqb→eq}
use borrow.Author.Tests.{lt-ltb, eq-eqb, ne_eqb, ltb-true, ltb-false, leb-true}
use Rattle.model.specs.Words.{Shape, pick, height, count, start, end, row, child, free_count, row_limit, max_height}
use Rattle.model.specs.Tree.{Limit, Open, node_at, sound, end_sound, empty_root}
use Rattle.model.specs.Reading.{unsound, leaf, next_row, checked, descend, root_leaf, to_right}
use Rattle.model.specs.Append.{Room, append_start, room_from, room}
use Rattle.model.proofs.Tests.{and_l, and_r, by_test, holds}
use Rattle.node_test.proofs.Rows.{facts}
use Rattle.tree_path.proofs.Down.{root_empty}
pub use Rattle.tree_path.proofs.Down.{root-high, root-path}
use Rattle.model.specs.Paths.{no_position, rooted}
use Rattle.model.specs.declared.path.Position.{Position}
use Rattle.model.specs.declared.path.Path.{Path}
use Rattle.model.specs.declared.answer.UnsoundNode.{UnsoundNode}
use Rattle.std.specs.Prelude.{Result, Ok, Err}
use Rattle.tree_right_edge.specs.declared.RightEdge.{RightEdge}
use Rattle.tree_right_edge.specs.Edge.{right_edge, Edge, SoundEdge, Descended, EdgeFound, Usable}

never : {A : Type 0} (m l : ℕ) (b : Limit) → unsound m ≡ leaf l b → A
never m l b e = let z : ◌≡◌ {A = ℕ} 0 1 = cc in absurd (omega arith)

same-leaf : (n l : ℕ) (b c : Limit) → leaf n b ≡ leaf l c → n ≡ l
same-leaf n l b c e = cc

-- where the next rows begin
module _ (C : Shape) (w : List ℕ) (n : ℕ) where
  pub start_empty : count C w n ≡ 0 → append_start C w n ≡ start C w n
  unfolding append_start
  start_empty e = rw (eq-eqb (count C w n) 0 e)

  pub start-some : (count C w n ≡ 0 → ⊥) → append_start C w n ≡ end C w n
  unfolding append_start
  start-some e = rw (ne_eqb (count C w n) 0 e)

  -- a sound leaf ends within the rows
  leaf-low : (r : ℕ) (b : Limit) → sound C 0 (node_at C w n) r b ≡ true → append_start C w n ≤ row_limit
  unfolding end_sound
  leaf-low r b s =
      let f = facts C w n 0 r b s in
      let t = holds _ f.ends in
      let e : end C w n ≤ row_limit = leb→le (end C w n) row_limit (search (and_l, and_r) depth 8) in
      omega (arith, start-some (λ z. omega (arith, f.some)))

  empty_facts : empty_root C w n ≡ true → (height C w n ≡ 0) × (count C w n ≡ 0) × (append_start C w n ≤ row_limit)
  unfolding empty_root
  empty_facts e =
      let t = holds (empty_root C w n) e in
      let h : height C w n ≡ 0 = eqb→eq (height C w n) 0 (search (and_l, and_r) depth 8) in
      let z : count C w n ≡ 0 = eqb→eq (count C w n) 0 (search (and_l, and_r) depth 8) in
      let l : start C w n ≤ row_limit = leb→le (start C w n) row_limit (search (and_l, and_r) depth 8) in
      (h, z, omega (arith, start_empty z))

module _ (C : Shape) (P : ℕ) (w : List ℕ) where
  -- node i of the edge down from node n of height h
  abbrev pub on : ℕ → ℕ → ℕ → Position
  on h n i = get_or (right_edge C w h n) i no_position

  -- what a path to the right leaf has tested, and where it ends
  down : (h m n r : ℕ) (b : Limit) (l : ℕ) (c : Limit) → descend (to_right C w) C P w h m n r b ≡ leaf l c → Edge C P w h n × (l < P) × (append_start C w l ≤ row_limit) × ((on h n h).node.0 ≡ l)
  unfolding descend checked Edge right_edge
  down zero m n r b l c e =
      by_test (ltb n P)
      (λ t. let i = ltb-true n P t in
      by_test (sound C 0 (node_at C w n) r b)
      (λ s. subst (λ (k : ℕ). (n < P) × (k < P) × (append_start C w k ≤ row_limit) × (n ≡ k)) (same-leaf n l b c (rw (t, s) at e)) (i, i, leaf-low C w n r b s, refl))
      (λ s. never n l c (rw (t, s) at e)))
      (λ t. never m l c (rw t at e))
  down (suc h) m n r b l c e =
      let i = to_right C w n in
      by_test (ltb n P)
      (λ t. by_test (sound C (suc h) (node_at C w n) r b)
      (λ s. let f = facts C w n (suc h) r b s in
      let d = down h n (child C w n i) (row C w n i) (next_row C w n i b) l c (rw (t, s) at e) in
      ((ltb-true n P t, f.some, f.many, d.0), d.1, d.2, d.3))
      (λ s. never n l c (rw (t, s) at e)))
      (λ t. never m l c (rw t at e))

  pub ready : (n l : ℕ) (b : Limit) → n < P → root_leaf (to_right C w) C P w n ≡ leaf l b → SoundEdge C P w n l × ((on (height C w n) n (height C w n)).node.0 ≡ l)
  unfolding root_leaf Edge right_edge
  ready n l b i e =
      by_test (empty_root C w n)
      (λ t. let z = empty_facts C w n t in
      subst (λ (k : ℕ). SoundEdge C P w n k × ((on (height C w n) n (height C w n)).node.0 ≡ k)) (same-leaf n l Open b (rw t at e))
      (record { high = omega (arith, z.0); edge = rw z.0 i; inside = i; low = z.2 }, rw z.0))
      (λ t. by_test (leb (height C w n) max_height)
      (λ u. let d = down (height C w n) n n (start C w n) Open l b (rw (t, u) at e) in
      (record { high = leb-true (height C w n) max_height u; edge = d.0; inside = d.1; low = d.2 }, d.3))
      (λ u. never n l b (rw (t, u) at e)))

  -- node i is full
  abbrev Full : ℕ → ℕ → ℕ → Type 0
  Full h n i = C.cap ≤ count C w (on h n i).node.0

  -- the room found is o where all nodes are full, or the lowest node that is not
  pub record Lowest (h n : ℕ) (z : Room) : Type 0 where
    pub at : ℕ
    pub high : at + z.needed ≡ h
    pub here : (on h n at).node.0 ≡ z.node
    pub inside : z.node < P
    pub space : count C w z.node < C.cap
    pub full : (i : ℕ) → at < i → i ≤ h → Full h n i

  pub found : (h n : ℕ) (o : Room) → Edge C P w h n → ((room_from C w h n o ≡ o) × ((i : ℕ) → i ≤ h → Full h n i)) ⊎ Lowest h n (room_from C w h n o)
  unfolding room_from Edge right_edge
  found zero n o q =
      by_test (ltb (count C w n) C.cap)
      (λ t. rw t (inr (record { at = 0; high = refl; here = refl; inside = q; space = ltb-true (count C w n) C.cap t; full = λ i a b. absurd (omega arith) })))
      (λ t. rw t (inl (refl, λ i l. (let z : i ≡ 0 = omega arith in rw z (ltb-false (count C w n) C.cap t)))))
  found (suc h) n o q =
      let c = child C w n (to_right C w n) in
      let u = pick (ltb (count C w n) C.cap) (record { node = n; needed = suc h }) o in
      ⊎_elim
      (λ (f : (room_from C w h c u ≡ u) × ((i : ℕ) → i ≤ h → Full h c i)). rw f.0 (by_test (ltb (count C w n) C.cap)
      (λ t. rw t (inr (record { at = 0; high = omega arith; here = refl; inside = q.0; space = ltb-true (count C w n) C.cap t; full = λ i a b. under h n c i 0 refl (λ j x y. f.1 j y) a b })))
      (λ t. rw t (inl (refl, λ i l. by_test (ltb 0 i) (λ x. under h n c i 0 refl (λ j y v. f.1 j v) (ltb-true 0 i x) l) (λ x. (let z : i ≡ 0 = omega (arith, ltb-false 0 i x) in rw z (ltb-false (count C w n) C.cap t))))))))
      (λ (f : Lowest h c (room_from C w h c u)). inr (record { at = suc f.at; high = omega (arith, f.high); here = f.here; inside = f.inside; space = f.space; full = λ i a b. under h n c i (suc f.at) refl (λ j x y. f.full j (omega arith) y) a b }))
      (found h c u q.3)
    where
      -- below the top
      under : (h n c i k : ℕ) → c ≡ child C w n (to_right C w n) → ((j : ℕ) → k < suc j → j ≤ h → Full h c j) → k < i → i ≤ suc h → Full (suc h) n i
      under h n c zero k e f a b = absurd (omega arith)
      under h n c (suc i) k e f a b = rw (sym e) (f i a (omega arith))

  pub usable : (n l : ℕ) → SoundEdge C P w n l → (room C w n).needed ≤ free_count w → (height C w n < (room C w n).needed → height C w n ≢ max_height) → Usable C P w n (room C w n)
  unfolding room
  usable n l r f m =
      ⊎_elim
      (λ x. let k : (room C w n).needed ≡ height C w n + 2 = ap (λ (o : Room). o.needed) x.0 in
      record { high = r.high; few = omega (arith, r.high, k, m (omega (arith, k))); free = f; hangs = λ a. absurd (omega (arith, k)); splits = λ a. k })
      (λ z. record { high = r.high; few = omega (arith, r.high, z.high); free = f; hangs = λ a. (z.inside, z.space); splits = λ a. absurd (omega (arith, z.high)) })
      (found (height C w n) n (record { node = n; needed = height C w n + 2 }) r.edge)

-- From the root ------------------------------------------------------------------------------------------

module _ (C : Shape) (P : ℕ) (w : List ℕ) (n : ℕ) where
  pub edged_not : (m : UnsoundNode) → root_leaf (to_right C w) C P w n ≡ unsound m.0.0 → EdgeFound C P w n (Err m)
  edged_not m d = record { answer = sym d; whole = tt }

  pub edged_down : (e : Result RightEdge UnsoundNode) → n < P → root_leaf (to_right C w) C P w n ≡ descend (to_right C w) C P w (height C w n) n n (start C w n) Open → Descended C P w (height C w n) n (start C w n) e → EdgeFound C P w n e
  unfolding room
  edged_down (Err m) l p d = record { answer = d.answer ∙ sym p; whole = tt }
  edged_down (Ok x) l p d =
      let a = d.answer ∙ sym p in
      record { answer = a; whole = record { ready = (ready C P w n x.leaf.0 Open l (sym a)).0; deep = d.walked.deep; path = d.walked.path; room = d.walked.room } }

  -- an empty root: one position, with room
  pub edged_empty : (q : Path) → q ≡ rooted n → n < P → 2 ≤ C.cap → empty_root C w n ≡ true → EdgeFound C P w n (Ok (record { path = q; leaf = record { 0 = n }; room = record { node = record { 0 = n }; needed = 0 } }))
  unfolding room room_from right_edge
  edged_empty q p l c t =
      let z = empty_facts C w n t in
      let a = root_empty (to_right C w) C P w n t in
      record { answer = sym a; whole = record { ready = (ready C P w n n Open l a).0; deep = rw (z.0, p); path = rw (z.0, z.1, p); room = rw (z.0, z.1, lt-ltb 0 C.cap (omega arith)) } }

-- what the steps from the root cite
pub ruleset root_steps = (edged_not, edged_down, root-high, root-path)
