-- The lookup of 01, which reads one path, is lookup in the entries, on a root whose nodes are all sound.
use Prim.Native.Nat.{ℕ, zero, suc, ◌+◌, ◌-◌, ◌<◌, ◌≤◌}
use mathlib.Core.List.{List, []}
use mathlib.Core.Bool.{Bool, true, false, and-false}
use mathlib.Core.Path.{◌≡◌, refl, sym, ap, ◌∙◌, subst}
use native.Mathlib.Omega.{arith}
use lib.Dec.{T, ltb, eqb, eqb→eq}
use borrow.Author.Tests.{lt-ltb, le-ltb, le-leb, ne_eqb, eq-eqb, ltb-true, ltb-false}
use Rattle.model.specs.Words.{Shape, pick, height, count, start, end, row, child, NONE, row_limit, max_height}
use Rattle.model.specs.Tree.{Limit, Open, Below, pairs_from, sound, empty_root, root_sound, Level, level, last, over_pairs, Under, AllSound}
use Rattle.model.specs.Reading.{Reached, leaf, next_row, checked, descend, root_leaf, last_not_above, to_row, entries, root_entries}
use Rattle.model.specs.WellFormed.{EmptyRoot, SoundRoot, empty_tree, sound_tree}
use Rattle.model.specs.Lookup.{found_in, find_in_tree, under, entry_find}
use Rattle.model.proofs.Tests.{by_test, is_true, and_l, and_r}
use Rattle.model.proofs.Sound.{soundly, sound-at, rows, rises}
use Rattle.model.proofs.Once.{some_pairs}
use Rattle.model.proofs.Look.{nothing, found, hit, Chosen, from_pairs, find_at, locate, entry-find, find-look, all_left}
use Rattle.model.proofs.Place.{next_at, all-at, risen, forth, choose-at, Stands, forth-stands, place_is}

module _ (C : Shape) (P : ℕ) (w : List ℕ) (q : ℕ) where
  -- what a sound node n of k + 1 entries shows, at the place of row q
  pub record At (h n r : ℕ) (b : Limit) : Type 0 where
    pub more : ℕ
    pub many : count C w n ≡ suc more
    pub place : to_row C w q n ≡ forth C w n q 0 more
    pub stands : Stands C w n q 0 more (forth C w n q 0 more)
    pub chosen : find_at (suc h) q (level C w (suc h) n) r b
        ≡ find_at h q (level C w h (child C w n (to_row C w q n))) (row C w n (to_row C w q n)) (next_at C w n (count C w n) (last h (end C w n) b) (to_row C w q n))
    pub rise : (a c : ℕ) → a < c → c < count C w n → row C w n a < row C w n c

  at_from : (h n r k : ℕ) (b : Limit) (z : ℕ → Bool) → count C w n ≡ k → T (rows z r (pairs_from C w (level C w h) n 0 k)) → r ≤ q → At h n r b
  unfolding rows pairs_from find_at level from_pairs
  at_from h n r zero b z e t l = absurd t
  at_from h n r (suc k) b z e t l =
      let B = last h (end C w n) b in
      let s = and_r (eqb (row C w n 0) r) (rises z (row C w n 0) (pairs_from C w (level C w h) n (0 + 1) k)) t in
      let low : row C w n 0 ≤ q = omega (arith, eqb→eq (row C w n 0) r (and_l (eqb (row C w n 0) r) (rises z (row C w n 0) (pairs_from C w (level C w h) n (0 + 1) k)) t)) in
      let long : count C w n ≡ 0 + 1 + k = omega (arith, e) in
      let here : to_row C w q n ≡ forth C w n q 0 k = ap (last_not_above C w q n) long ∙ place_is C w n q (level C w h) z 0 k s low in
      record {
        more = k;
        many = e;
        place = here;
        stands = forth-stands C w n q 0 k low;
        chosen =
            ap (λ (c : ℕ). from_pairs (find_at h q) (pairs_from C w (level C w h) n 0 c) B q) e
            ∙ ap (λ (c : Chosen (Level h)). find_at h q c.what c.low c.high) (choose-at C w n q (level C w h) B 0 k)
            ∙ rw (here, long);
        rise = λ a c m u. risen C w n (level C w h) z 0 k s a c (omega arith) m (omega (arith, e));
      }

  at : (h n r : ℕ) (b : Limit) → AllSound C P (suc h) (level C w (suc h) n) r b → r ≤ q → At h n r b
  unfolding AllSound level
  at h n r b g l = at_from h n r (count C w n) b _ refl (soundly C h (level C w (suc h) n) r b g.1).rise l

  -- entry i of a sound node, with what is next for it
  child-sound : (h n r : ℕ) (b : Limit) → AllSound C P (suc h) (level C w (suc h) n) r b → (i : ℕ) → i < count C w n
      → AllSound C P h (level C w h (child C w n i)) (row C w n i) (next_at C w n (count C w n) (last h (end C w n) b) i)
  unfolding AllSound level
  child-sound h n r b g i l =
      let s : 0 + count C w n ≡ count C w n = omega arith in
      subst (λ (x : ℕ). AllSound C P h (level C w h (child C w n i)) (row C w n i) (next_at C w n x (last h (end C w n) b) i)) s
      (all-at C w n (level C w h) (AllSound C P h) 0 (count C w n) (last h (end C w n) b) g.2 i (omega arith) (omega arith))

  -- a sound node is passed
  passed : (h m n r : ℕ) (b : Limit) (x : Reached) → AllSound C P (suc h) (level C w (suc h) n) r b → checked C P w h m n r b x ≡ x
  unfolding checked AllSound level
  passed h m n r b x g =
      rw (is_true (ltb n P) g.0, ← sound-at (level C w h) C w h n r b, is_true (sound C h (level C w (suc h) n) r b) g.1)

  -- the rows of a leaf are below its end
  below_end : (n r : ℕ) (b : Limit) → AllSound C P 1 (level C w 1 n) r b → r ≤ q → (i : ℕ) → i < count C w n → row C w n i < end C w n
  unfolding AllSound Under last
  below_end n r b g l i u =
      let z = count C w n - 1 in
      let s = child-sound 0 n r b g z (omega arith) in
      let top : row C w n z < end C w n = subst (λ (t : Bool). Under (row C w n z) (pick t (Below (row C w n (z + 1))) (Below (end C w n)))) (le-ltb (z + 1) (count C w n) (omega arith)) s in
      by_test (ltb i z)
      (λ t. omega (arith, top, (at 0 n r b g l).rise i z (ltb-true i z t) (omega arith)))
      (λ t. let e : i ≡ z = omega (arith, ltb-false i z t) in subst (λ (x : ℕ). row C w n x < end C w n) (sym e) top)

  -- in a leaf
  leaf-under : (n r : ℕ) (b : Limit) → AllSound C P 1 (level C w 1 n) r b → r ≤ q
      → under q (next_at C w n (count C w n) (Below (end C w n)) (to_row C w q n)) ≡ ltb q (end C w n)
  unfolding under
  leaf-under n r b g l =
      let a = at 0 n r b g l in
      let j = to_row C w q n in
      by_test (ltb (j + 1) (count C w n))
      (λ t. let s = subst (λ (x : ℕ). Stands C w n q 0 a.more x) (sym a.place) a.stands in
      let u : q < row C w n (j + 1) = s.past (omega (arith, ltb-true (j + 1) (count C w n) t, a.many)) in
      rw (t, lt-ltb q (row C w n (j + 1)) u, lt-ltb q (end C w n) (omega (arith, below_end n r b g l (j + 1) (ltb-true (j + 1) (count C w n) t)))))
      (λ t. rw t)

  hit-is : (x r e : ℕ) (c : Limit) → r ≤ q → under q c ≡ ltb q e → find_at 0 q x r c ≡ pick (ltb q e) (found x) nothing
  unfolding find_at hit
  hit-is x r e c l u = rw (le-leb r q l, u)

  leaf-hit : (n r : ℕ) (b : Limit) → AllSound C P 1 (level C w 1 n) r b → r ≤ q
      → find_at 1 q (level C w 1 n) r b ≡ pick (ltb q (end C w n)) (found (child C w n (to_row C w q n))) nothing
  unfolding level last
  leaf-hit n r b g l =
      let a = at 0 n r b g l in
      let low : row C w n (to_row C w q n) ≤ q = subst (λ (x : ℕ). row C w n x ≤ q) (sym a.place) a.stands.here in
      a.chosen ∙ hit-is (child C w n (to_row C w q n)) (row C w n (to_row C w q n)) (end C w n) (next_at C w n (count C w n) (Below (end C w n)) (to_row C w q n)) low (leaf-under n r b g l)

  in_leaf : (n r : ℕ) (b : Limit) → AllSound C P 1 (level C w 1 n) r b → r ≤ q → found_in C w q (leaf n b) ≡ locate (find_at 1 q (level C w 1 n) r b)
  unfolding found_in
  in_leaf n r b g l =
      let a = at 0 n r b g l in
      rw (lt-ltb 0 (count C w n) (omega (arith, a.many)), leaf-hit n r b g l)
      (by_test (ltb q (end C w n)) (λ t. rw t) (λ t. rw t))

  -- down a path
  find-path : (h m n r : ℕ) (b : Limit) → AllSound C P (suc h) (level C w (suc h) n) r b → r ≤ q
      → found_in C w q (descend (to_row C w q) C P w h m n r b) ≡ locate (find_at (suc h) q (level C w (suc h) n) r b)
  unfolding descend next_row last
  find-path zero m n r b g l = rw (passed 0 m n r b (leaf n b) g) (in_leaf n r b g l)
  find-path (suc h) m n r b g l =
      let a = at (suc h) n r b g l in
      let j = to_row C w q n in
      let s = subst (λ (x : ℕ). Stands C w n q 0 a.more x) (sym a.place) a.stands in
      let down = descend (to_row C w q) C P w h n (child C w n j) (row C w n j) (next_row C w n j b) in
      ap (found_in C w q) (passed (suc h) m n r b down g)
      ∙ find-path h n (child C w n j) (row C w n j) (next_row C w n j b) (child-sound (suc h) n r b g j (omega (arith, s.high, a.many))) s.here
      ∙ ap locate (sym a.chosen)

-- a root that holds entries is not the empty one
pub not_empty : (C : Shape) (P : ℕ) (w : List ℕ) (h n r : ℕ) (b : Limit) → AllSound C P (suc h) (level C w (suc h) n) r b → empty_root C w n ≡ false
unfolding empty_root
not_empty C P w h n r b g =
    let p : 0 < count C w n = some_pairs C P w h n r b g in
    rw (ne_eqb (count C w n) 0 (λ e. omega arith), and-false)

-- an empty root is the empty one
pub is_empty : (C : Shape) (w : List ℕ) (n : ℕ) → EmptyRoot C w n → empty_root C w n ≡ true
unfolding empty_root
is_empty C w n e =
    rw (eq-eqb (height C w n) 0 e.leaf, eq-eqb (count C w n) 0 e.none, le-leb (start C w n) row_limit e.low, eq-eqb (end C w n) NONE e.ends)

no_entries_lem : (C : Shape) (w : List ℕ) (h n r : ℕ) (b : Limit) → count C w n ≡ 0 → entries (suc h) (level C w (suc h) n) r b ≡ []
unfolding entries level pairs_from over_pairs
no_entries_lem C w h n r b e = rw e

module _ (C : Shape) (P : ℕ) (w : List ℕ) (q n : ℕ) where
  empty_finds : EmptyRoot C w n → find_in_tree C P w n q ≡ entry_find (root_entries C w n) q
  unfolding find_in_tree root_sound root_leaf found_in entry_find
  empty_finds e =
      rw (no_entries_lem C w (height C w n) n (start C w n) Open e.none, is_empty C w n e, e.none)
      (by_test (ltb q (start C w n)) (λ t. rw t) (λ t. rw t))

  tree_finds : height C w n ≤ max_height → AllSound C P (suc (height C w n)) (level C w (suc (height C w n)) n) (start C w n) Open
      → find_in_tree C P w n q ≡ entry_find (root_entries C w n) q
  unfolding find_in_tree root_sound root_leaf AllSound level
  tree_finds u g =
      let h = height C w n in
      let es = root_entries C w n in
      by_test (ltb q (start C w n))
      (λ t. rw (t, not_empty C P w h n (start C w n) Open g, le-leb h max_height u, ← sound-at (level C w h) C w h n (start C w n) Open, is_true (sound C h (level C w (suc h) n) (start C w n) Open) g.1)
      (sym (entry-find es q ∙ ap locate (all_left C P q (suc h) (level C w (suc h) n) (start C w n) Open g (ltb-true q (start C w n) t)))))
      (λ t. rw (t, not_empty C P w h n (start C w n) Open g, le-leb h max_height u)
      (find-path C P w q h n n (start C w n) Open g (ltb-false q (start C w n) t)
      ∙ ap locate (find-look C P q (suc h) (level C w (suc h) n) (start C w n) Open g (ltb-false q (start C w n) t))
      ∙ sym (entry-find es q)))

  -- the law
  pub find-entries : SoundRoot C P w (height C w n) n → find_in_tree C P w n q ≡ entry_find (root_entries C w n) q
  find-entries (empty_tree e) = empty_finds e
  find-entries (sound_tree u g) = tree_finds u g
