-- The leaf that a path towards a row reaches is the one that the row chooses among the tree's leaves.
use Prim.Native.Nat.{ℕ, zero, suc, ◌+◌, ◌-◌, ◌<◌, ◌≤◌}
use mathlib.Core.List.{List, [], ◌∷◌}
use mathlib.Core.Bool.{true}
use mathlib.Core.Path.{◌≡◌, refl, sym, ap, ◌∙◌, subst}
use mathlib.Core.Logic.{◌⊎◌, inl, inr, ⊎_elim}
use native.Mathlib.Omega.{arith}
use lib.Dec.{T, leb, ltb, ltb→lt}
use borrow.Author.Tests.{le-leb, leb-true, leb-false, ltb-false}
use Rattle.model.specs.Words.{store_shape, lent, Shape, pick, pool, root, height, count, start, end, row, child, row_limit, max_height}
use Rattle.model.specs.Tree.{Limit, Open, Below, end_sound, sound, node_at, pairs_from, rising, Level, level, last, over_pairs, all_pairs, Under, AllSound}
use Rattle.model.specs.Reading.{Reached, leaf, next_row, descend, root_leaf, last_not_above, to_row, root_tree}
use Rattle.model.specs.WellFormed.{WellFormed, SoundRoot, empty_tree, sound_tree}
use Rattle.model.proofs.Tests.{by_test, holds, is_true}
use Rattle.model.proofs.Frame.{length_pairs}
use Rattle.model.proofs.Look.{Chosen}
use Rattle.model.proofs.Lookup.{is_empty, not_empty}
use Rattle.model.proofs.Place.{all-at, forth, choose-at}
use Rattle.model.proofs.Sound.{meets-is, soundly, sound-at, sound-begins, sound-ends, sound-below}
use Rattle.node_test.proofs.Rows.{facts, sound_if}
use Rattle.tree_path.proofs.Down.{down, ends, root_empty, root-path}
use Rattle.node_place.proofs.Places.{place_at, above_from, place-below}
use Rattle.law_formed.proofs.Linked.{Meets}
use Rattle.law_formed.proofs.Pairs.{all_both}
use Rattle.law_walk.specs.Walking.{LeafAt, leaves_of, store_leaves}
use Rattle.law_walk.proofs.Lined.{Good, Lined, begun-lined, chosen_pair, chosen_in, chosen_from, low_of}

abbrev pub leaf_of : LeafAt → Reached
leaf_of x = leaf x.number x.next

end-meets : (b : Limit) (e l : ℕ) → T (end_sound 0 b e l) → Meets b e
unfolding end_sound Meets
end-meets Open e l t = tt
end-meets (Below x) e l t = meets-is (ltb l e) (leb e row_limit) e x t

-- what holds of f of every number holds of every pair
all_made : {K : Type 0} (C : Shape) (w : List ℕ) (f : ℕ → K) (n i k : ℕ) (b : Limit) → all_pairs (λ (x : K) (r : ℕ) (c : Limit). (m : ℕ) × (x ≡ f m)) (pairs_from C w f n i k) b
unfolding all_pairs pairs_from
all_made C w f n i zero b = tt
all_made C w f n i (suc k) b = ((child C w n i, refl), all_made C w f n (i + 1) k b)

module _ (C : Shape) (P : ℕ) (w : List ℕ) where
  -- sound, and made of the words
  abbrev Made : (h : ℕ) → Level (suc h) → ℕ → Limit → Type 0
  Made h x r b = AllSound C P (suc h) x r b × ((m : ℕ) × (x ≡ level C w (suc h) m))

  made-pairs : (h n r : ℕ) (b : Limit) → AllSound C P (suc (suc h)) (level C w (suc (suc h)) n) r b
      → all_pairs (Made h) (pairs_from C w (level C w (suc h)) n 0 (count C w n)) b
  unfolding AllSound level last
  made-pairs h n r b g =
      all_both (AllSound C P (suc h)) (λ (x : Level (suc h)) (s : ℕ) (c : Limit). (m : ℕ) × (x ≡ level C w (suc h) m)) (Made h) (λ x s c u v. (u, v))
      (pairs_from C w (level C w (suc h)) n 0 (count C w n)) b g.2 (all_made C w (level C w (suc h)) n 0 (count C w n) b)

  pub lined-tree : (h n r : ℕ) (b : Limit) → AllSound C P (suc h) (level C w (suc h) n) r b
      → Lined C w (leaves_of h (level C w (suc h) n) r b) b × (low_of (leaves_of h (level C w (suc h) n) r b) ≡ r)
  unfolding AllSound leaves_of level Lined low_of last
  lined-tree zero n r b g =
      let s = soundly C 0 (level C w 1 n) r b g.1 in
      let e = sound-ends C 0 (level C w 1 n) r b g.1 in
      let good : Good C w (record { number = n; low = r; next = b; pairs = (level C w 1 n).pairs }) =
      record {
        many = omega (arith, s.many, length_pairs C w (level C w 0) n 0 (count C w n));
        held = refl;
        meets = end-meets b (end C w n) e.0 e.1;
        begin = s.begin;
        first = λ z. sound-begins C 0 (level C w 1 n) r b g.1;
      } in
      ((good, (refl, sound-below C P 1 (level C w 1 n) r b g)), refl)
  lined-tree (suc h) n r b g =
      begun-lined C w (leaves_of h) (Made h)
      (λ x s c m. subst (λ (y : Level (suc h)). Lined C w (leaves_of h y s c) c × (low_of (leaves_of h y s c) ≡ s)) (sym m.1.1)
      (lined-tree h m.1.0 s c (subst (λ (y : Level (suc h)). AllSound C P (suc h) y s c) m.1.1 m.0)))
      r (pairs_from C w (level C w (suc h)) n 0 (count C w n)) b
      (sound-begins C (suc h) (level C w (suc (suc h)) n) r b g.1) (made-pairs h n r b g)

  lined-made : (h : ℕ) (x : Level (suc h)) (r : ℕ) (b : Limit) → Made h x r b → Lined C w (leaves_of h x r b) b × (low_of (leaves_of h x r b) ≡ r)
  lined-made h x r b m =
      subst (λ (y : Level (suc h)). Lined C w (leaves_of h y r b) b × (low_of (leaves_of h y r b) ≡ r)) (sym m.1.1)
      (lined-tree h m.1.0 r b (subst (λ (y : Level (suc h)). AllSound C P (suc h) y r b) m.1.1 m.0))

  -- The place of a row, going forth from the first entry ------------------------------------------------------

  module _ (q n : ℕ) where
    record Stands (i k j : ℕ) : Type 0 where
      low : i ≤ j
      high : j ≤ i + k
      here : (j ≡ i) ⊎ (row C w n j ≤ q)
      past : j < i + k → q < row C w n (j + 1)

    stands : (i k : ℕ) → Stands i k (forth C w n q i k)
    unfolding forth
    stands i zero = record { low = omega arith; high = omega arith; here = inl refl; past = λ l. absurd (omega arith) }
    stands i (suc k) =
        by_test (leb (row C w n (i + 1)) q)
        (λ t. let s = stands (i + 1) k in
        rw t (record {
          low = omega (arith, s.low);
          high = omega (arith, s.high);
          here = ⊎_elim (λ e. inr (subst (λ (x : ℕ). row C w n x ≤ q) (sym e) (leb-true (row C w n (i + 1)) q t))) (λ u. inr u) s.here;
          past = λ l. s.past (omega arith);
        }))
        (λ t. rw t (record { low = omega arith; high = omega arith; here = inl refl; past = λ l. leb-false (row C w n (i + 1)) q t }))

    forth-is : (k : ℕ) → T (rising (pairs_from C w (λ (x : ℕ). x) n 0 (suc k))) → forth C w n q 0 k ≡ last_not_above C w q n (suc k)
    forth-is k up =
        let s = stands 0 k in
        let j = forth C w n q 0 k in
        place_at C w n (suc k) (omega arith) up q j (omega (arith, s.high)) s.here
        (λ m l u. above_from C w n (suc k) (omega arith) up q (j + 1)
        (by_test (ltb j k) (λ t. inr (s.past (omega (arith, ltb→lt j k (holds _ t))))) (λ t. inl (omega (arith, ltb-false j k t))))
        m (omega arith) u)

  -- Down a path -----------------------------------------------------------------------------------------------

  in_words : (h n r : ℕ) (b : Limit) → AllSound C P (suc h) (level C w (suc h) n) r b → sound C h (node_at C w n) r b ≡ true
  unfolding AllSound level
  in_words h n r b g = sym (sound-at (level C w h) C w h n r b) ∙ is_true (sound C h (level C w (suc h) n) r b) g.1

  inside : (h n r : ℕ) (b : Limit) → AllSound C P (suc h) (level C w (suc h) n) r b → n < P
  unfolding AllSound level
  inside h n r b g = ltb→lt n P g.0

  some : (h n r : ℕ) (b : Limit) → AllSound C P (suc h) (level C w (suc h) n) r b → 1 ≤ count C w n
  some h n r b g = (facts C w n h r b (in_words h n r b g)).some

  module _ (q : ℕ) where
    chosen-node : (h n r : ℕ) (b : Limit) → AllSound C P (suc (suc h)) (level C w (suc (suc h)) n) r b
        → chosen_in q (leaves_of (suc h) (level C w (suc (suc h)) n) r b)
        ≡ (let i = to_row C w q n in chosen_in q (leaves_of h (level C w (suc h) (child C w n i)) (row C w n i) (next_row C w n i b)))
    unfolding leaves_of level next_row pairs_from
    chosen-node h n r b g = go (count C w n) refl
      where
        good : sound C (suc h) (node_at C w n) r b ≡ true
        good = in_words (suc h) n r b g

        up : T (rising (pairs_from C w (λ (x : ℕ). x) n 0 (count C w n)))
        up = holds _ (sym (sound_if C w n (suc h) r b (facts C w n (suc h) r b good)) ∙ good)

        go : (k : ℕ) → count C w n ≡ k
            → chosen_in q (over_pairs (leaves_of h) (pairs_from C w (level C w (suc h)) n 0 (count C w n)) b)
            ≡ (let i = to_row C w q n in chosen_in q (leaves_of h (level C w (suc h) (child C w n i)) (row C w n i) (pick (ltb (i + 1) (count C w n)) (Below (row C w n (i + 1))) b)))
        go zero e = absurd (omega (arith, some (suc h) n r b g))
        go (suc k) e =
            let long : 0 + 1 + k ≡ count C w n = omega (arith, e) in
            let place : forth C w n q 0 k ≡ to_row C w q n =
            forth-is q n k (subst (λ (c : ℕ). T (rising (pairs_from C w (λ (x : ℕ). x) n 0 c))) e up) ∙ ap (last_not_above C w q n) (sym e) in
            ap (λ (c : ℕ). chosen_in q (over_pairs (leaves_of h) (pairs_from C w (level C w (suc h)) n 0 c) b)) e
            ∙ chosen_pair C w (leaves_of h) (Made h) (lined-made h) q (row C w n 0, level C w (suc h) (child C w n 0)) (pairs_from C w (level C w (suc h)) n (0 + 1) k) b
            (subst (λ (c : ℕ). all_pairs (Made h) (pairs_from C w (level C w (suc h)) n 0 c) b) e (made-pairs h n r b g))
            ∙ ap (λ (c : Chosen (Level (suc h))). chosen_in q (leaves_of h c.what c.low c.high)) (choose-at C w n q (level C w (suc h)) b 0 k)
            ∙ rw (place, long)

    child-sound : (h n r : ℕ) (b : Limit) → AllSound C P (suc (suc h)) (level C w (suc (suc h)) n) r b
        → (let i = to_row C w q n in AllSound C P (suc h) (level C w (suc h) (child C w n i)) (row C w n i) (next_row C w n i b))
    unfolding AllSound level next_row last
    child-sound h n r b g =
        let s : 0 + count C w n ≡ count C w n = omega arith in
        let i = to_row C w q n in
        subst (λ (x : ℕ). AllSound C P (suc h) (level C w (suc h) (child C w n i)) (row C w n i) (pick (ltb (i + 1) x) (Below (row C w n (i + 1))) b)) s
        (all-at C w n (level C w (suc h)) (AllSound C P (suc h)) 0 (count C w n) b g.2 i (omega arith)
        (omega (arith, place-below C w n q (count C w n) (some (suc h) n r b g))))

    reach : (h m n r : ℕ) (b : Limit) → AllSound C P (suc h) (level C w (suc h) n) r b
        → descend (to_row C w q) C P w h m n r b ≡ leaf_of (chosen_in q (leaves_of h (level C w (suc h) n) r b))
    unfolding leaves_of chosen_in chosen_from level
    reach zero m n r b g = ends (to_row C w q) C P w m n r b 0 (omega arith) (inside 0 n r b g) (in_words 0 n r b g)
    reach (suc h) m n r b g =
        let i = to_row C w q n in
        let d : suc h - 1 ≡ h = omega arith in
        down (to_row C w q) C P w m n r b (suc h) i (omega arith) (inside (suc h) n r b g) (in_words (suc h) n r b g) refl
        ∙ ap (λ (k : ℕ). descend (to_row C w q) C P w k n (child C w n i) (row C w n i) (next_row C w n i b)) d
        ∙ reach h n (child C w n i) (row C w n i) (next_row C w n i b) (child-sound h n r b g)
        ∙ sym (ap leaf_of (chosen-node h n r b g))

-- From the root -----------------------------------------------------------------------------------------------

module _ (C : Shape) (P : ℕ) (w : List ℕ) where
  abbrev n : ℕ
  n = root w

  empty_one : (h r : ℕ) (b : Limit) → h ≡ 0 → leaves_of h (level C w (suc h) n) r b ≡ record { number = n; low = r; next = b; pairs = pairs_from C w (level C w 0) n 0 (count C w n) } ∷ []
  unfolding leaves_of level
  empty_one zero r b e = refl
  empty_one (suc h) r b e = absurd (omega arith)

  abbrev root_leaves : List LeafAt
  root_leaves = leaves_of (height C w n) (root_tree C w n) (start C w n) Open

  root-lined : SoundRoot C P w (height C w n) n → Lined C w root_leaves Open × (low_of root_leaves ≡ start C w n)
  unfolding Lined Under Meets low_of level
  root-lined (sound_tree l g) = lined-tree C P w (height C w n) n (start C w n) Open g
  root-lined (empty_tree e) =
      let good : Good C w (record { number = n; low = start C w n; next = Open; pairs = pairs_from C w (level C w 0) n 0 (count C w n) }) =
      record { many = omega (arith, e.none); held = refl; meets = tt; begin = refl; first = λ z. absurd (omega (arith, e.none)) } in
      subst (λ (ls : List LeafAt). Lined C w ls Open × (low_of ls ≡ start C w n)) (sym (empty_one (height C w n) (start C w n) Open e.leaf)) ((good, (refl, tt)), refl)

  root-reach : (q : ℕ) → SoundRoot C P w (height C w n) n → root_leaf (to_row C w q) C P w n ≡ leaf_of (chosen_in q root_leaves)
  unfolding chosen_in chosen_from
  root-reach q (sound_tree l g) =
      root-path (to_row C w q) C P w n (not_empty C P w (height C w n) n (start C w n) Open g) (le-leb (height C w n) max_height l)
      ∙ reach C P w q (height C w n) n n (start C w n) Open g
  root-reach q (empty_tree e) =
      root_empty (to_row C w q) C P w n (is_empty C w n e)
      ∙ sym (ap (λ (ls : List LeafAt). leaf_of (chosen_in q ls)) (empty_one (height C w n) (start C w n) Open e.leaf))

  -- the empty root is the only leaf
  root-full : SoundRoot C P w (height C w n) n → (0 < count C w n) ⊎ ((x : LeafAt) × (root_leaves ≡ x ∷ []))
  root-full (sound_tree l g) = inl (some C P w (height C w n) n (start C w n) Open g)
  root-full (empty_tree e) = inr (_, empty_one (height C w n) (start C w n) Open e.leaf)

module _ (w : List ℕ) (F : WellFormed lent w) where
  pub store_full : (0 < count (store_shape lent w) w (root w)) ⊎ ((x : LeafAt) × (store_leaves w ≡ x ∷ []))
  unfolding WellFormed
  store_full = root-full (store_shape lent w) (pool w) w F.sound

  pub store_lined : Lined (store_shape lent w) w (store_leaves w) Open × (low_of (store_leaves w) ≡ start (store_shape lent w) w (root w))
  unfolding WellFormed
  store_lined = root-lined (store_shape lent w) (pool w) w F.sound

  pub store_reach : (q : ℕ) → root_leaf (to_row (store_shape lent w) w q) (store_shape lent w) (pool w) w (root w) ≡ leaf_of (chosen_in q (store_leaves w))
  unfolding WellFormed
  store_reach q = root-reach (store_shape lent w) (pool w) w q F.sound
