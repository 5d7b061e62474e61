-- One step of a path to a leaf.
use Prim.Native.Nat.{ℕ, zero, suc, ◌-◌, ◌<◌, ◌≤◌}
use mathlib.Core.List.{List}
use mathlib.Core.Bool.{true, false}
use mathlib.Core.Path.{◌≡◌, sym, ap, ◌∙◌, subst}
use native.Mathlib.Omega.{arith}
use lib.Dec.{T, leb, ltb}
use borrow.Author.Tests.{lt-ltb, le-ltb, ltb-true}
use mathlib.Core.Logic.{◌⊎◌, inl, inr}
use Rattle.model.proofs.Tests.{by_test, holds}
use Rattle.model.specs.Tree as Tree
use Rattle.model.specs.Words.{Shape, height, count, start, row, child, max_height}
use Rattle.model.specs.Tree.{Limit, Open, node_at, sound, empty_root, rising, pairs_from}
use Rattle.model.specs.Reading.{unsound, leaf, next_row, checked, descend, root_leaf, last_not_above, to_row}
use Rattle.model.specs.declared.node.RowPageIndexNodeHeader.{RowPageIndexNodeHeader}
use Rattle.node_read.specs.Layout.{header_at}
use Rattle.node_test.proofs.Rows.{facts, sound_if}
use Rattle.node_place.proofs.Places.{place-below}

module _ (f : ℕ → ℕ) (C : Shape) (P : ℕ) (w : List ℕ) (m n r : ℕ) (b : Limit) where
  -- a number out of range; an unsound node
  pub far : (h : ℕ) → P ≤ n → descend f C P w h m n r b ≡ unsound m
  unfolding descend checked
  far zero l = rw (le-ltb n P l)
  far (suc h) l = rw (le-ltb n P l)

  pub bad : (h : ℕ) → n < P → sound C h (node_at C w n) r b ≡ false → descend f C P w h m n r b ≡ unsound n
  unfolding descend checked
  bad zero l s = rw (lt-ltb n P l, s)
  bad (suc h) l s = rw (lt-ltb n P l, s)

  pub ends : (h : ℕ) → h ≤ 0 → n < P → sound C 0 (node_at C w n) r b ≡ true → descend f C P w h m n r b ≡ leaf n b
  unfolding descend checked
  ends zero z l s = rw (lt-ltb n P l, s)
  ends (suc h) z l s = absurd (omega arith)

  pub down : (h i : ℕ) → 0 < h → n < P → sound C h (node_at C w n) r b ≡ true → i ≡ f n → descend f C P w h m n r b ≡ descend f C P w (h - 1) n (child C w n i) (row C w n i) (next_row C w n i b)
  unfolding descend checked
  down zero i z l s e = absurd (omega arith)
  down (suc h) i z l s e = let d : suc h - 1 ≡ h = omega arith in rw (lt-ltb n P l, s, e, d)

module _ (f : ℕ → ℕ) (C : Shape) (P : ℕ) (w : List ℕ) (n : ℕ) where
  pub root_empty : empty_root C w n ≡ true → root_leaf f C P w n ≡ leaf n Open
  unfolding root_leaf
  root_empty e = rw e

  pub root-high : empty_root C w n ≡ false → leb (height C w n) max_height ≡ false → root_leaf f C P w n ≡ unsound n
  unfolding root_leaf
  root-high e h = rw (e, h)

  pub root-path : empty_root C w n ≡ false → leb (height C w n) max_height ≡ true → root_leaf f C P w n ≡ descend f C P w (height C w n) n n (start C w n) Open
  unfolding root_leaf
  root-path e h = rw (e, h)

-- a leaf that is reached is in the pool and sound there
module _ (f : ℕ → ℕ) (C : Shape) (P : ℕ) (w : List ℕ) (n : ℕ) (b : Limit) where
  pub record Sound : Type 0 where
    pub inside : n < P
    pub row : ℕ
    pub good : Tree.sound C 0 (node_at C w n) row b ≡ true

  not-leaf : {A : Type 0} (m : ℕ) → unsound m ≡ leaf n b → A
  not-leaf m e = let z : ◌≡◌ {A = ℕ} 0 1 = cc in absurd (omega arith)

  pub path-sound : (h m k r : ℕ) (c : Limit) → descend f C P w h m k r c ≡ leaf n b → Sound
  unfolding descend checked
  path-sound zero m k r c e =
      by_test (ltb k P)
      (λ t. by_test (Tree.sound C 0 (node_at C w k) r c)
      (λ s. let q : leaf k c ≡ leaf n b = rw (t, s) at e in
      let i : k ≡ n = cc in let d : c ≡ b = cc in
      record { inside = subst (λ (x : ℕ). x < P) i (ltb-true k P t); row = r; good = subst (λ (y : Limit). Tree.sound C 0 (node_at C w n) r y ≡ true) d (subst (λ (x : ℕ). Tree.sound C 0 (node_at C w x) r c ≡ true) i s) })
      (λ s. not-leaf k (rw (t, s) at e)))
      (λ t. not-leaf m (rw t at e))
  path-sound (suc h) m k r c e =
      by_test (ltb k P)
      (λ t. by_test (Tree.sound C (suc h) (node_at C w k) r c)
      (λ s. path-sound h k (child C w k (f k)) (row C w k (f k)) (next_row C w k (f k) c) (rw (t, s) at e))
      (λ s. not-leaf k (rw (t, s) at e)))
      (λ t. not-leaf m (rw t at e))

  -- from the root it may also be the empty root
  pub root-sound : (k : ℕ) → k < P → root_leaf f C P w k ≡ leaf n b → ((n < P) × (empty_root C w n ≡ true)) ⊎ Sound
  unfolding root_leaf
  root-sound k l e =
      by_test (empty_root C w k)
      (λ t. let q : leaf k Open ≡ leaf n b = rw t at e in let i : k ≡ n = cc in inl (subst (λ (x : ℕ). x < P) i l, subst (λ (x : ℕ). empty_root C w x ≡ true) i t))
      (λ t. by_test (leb (height C w k) max_height)
      (λ u. inr (path-sound (height C w k) k k (start C w k) Open (rw (t, u) at e)))
      (λ u. not-leaf k (rw (t, u) at e)))

-- the rows of a sound node and its entry towards row q, by the header k that was read
module _ (C : Shape) (w : List ℕ) (n h r : ℕ) (b : Limit) (s : sound C h (node_at C w n) r b ≡ true) (k : RowPageIndexNodeHeader) (e : k ≡ header_at C w n) where
  counted : k.count ≡ count C w n
  counted = ap (λ (y : RowPageIndexNodeHeader). y.count) e

  pub rows_of : (1 ≤ k.count) × (k.count ≤ C.cap) × T (rising (pairs_from C w (λ (x : ℕ). x) n 0 k.count))
  rows_of =
      let f = facts C w n h r b s in
      (omega (arith, counted, f.some), omega (arith, counted, f.many), rw counted (holds _ (sym (sound_if C w n h r b f) ∙ s)))

  module _ (q i : ℕ) (p : i ≡ last_not_above C w q n k.count) where
    pub towards : i ≡ to_row C w q n
    towards = p ∙ ap (last_not_above C w q n) counted

    pub entry_of : (i < count C w n) × (count C w n ≤ C.cap)
    entry_of =
        let f = facts C w n h r b s in
        (omega (arith, towards, place-below C w n q (count C w n) f.some), f.many)
