-- The nodes to be copied, one level at a time.
use Prim.Native.Nat.{ℕ, zero, suc, ◌+◌, ◌-◌, ◌<◌, ◌≤◌}
use mathlib.Core.List.{List, [], ◌∷◌, ◌++◌}
use mathlib.Core.Bool.{Bool, true, false}
use mathlib.Core.Path.{◌≡◌, refl, sym, ap, ◌∙◌, subst}
use native.Mathlib.Omega.{arith}
use native.Mathlib.Nat.{zero-add, add-zero, sub-zero}
use lib.ListN.{get_or, set, length, length-set, replicate}
use lib.Seq.{get_or-set_same, get_or-set_other}
use lib.Dec.{T, ltb, eqb, eqb→eq}
use borrow.Author.Tests.{ne_eqb, ltb-true, ltb-false, eqb-true, eqb-false}
use Rattle.model.specs.Words.{Shape, pick, height, count, start, end, row, child}
use Rattle.model.specs.Tree.{Open, Level, pairs_from, node_at, level, end_sound, sound}
use Rattle.model.specs.Cut.{cut_pairs, cut, trims, kept}
use Rattle.model.specs.Prune.{Copies, unsound, copies, before, at_last, copies_from}
use Rattle.model.specs.Paths.{no_position}
use Rattle.model.specs.declared.path.Position.{Position}
use Rattle.model.specs.declared.path.Path.{Path}
use Rattle.model.proofs.Tests.{by_test, holds, and_l}
use Rattle.model.proofs.Sound.{rows, rises, soundly, sound-at}
use Rattle.model.proofs.Frame.{length_pairs}
use Rattle.law_prune.proofs.Rests.{cut-length}
use Rattle.law_prune.proofs.Path.{SpotAt, spot}
use Rattle.node_chain.specs.Chain.{listed}
use Rattle.model.specs.declared.id.NodeNo.{NodeNo}
use Rattle.prune_boundary.specs.Trims.{trims_from, NoneBelow}
use Rattle.prune_write.specs.Nodes.{AllIn}
use Rattle.node_chain.proofs.Links.{listed-set}
use Rattle.prune_write.proofs.Turns.{trims-turn, trims-stop}
use Rattle.std.specs.Prelude.{Option, Some, None, Result, Ok, Err}
use Rattle.model.specs.declared.answer.UnsoundNode.{UnsoundNode}
use Rattle.prune_collapse.specs.Copied.{SoundTop, copy_at}

-- nodes found before
unfoldable pub before_all : List ℕ → Copies → Copies
before_all [] c = c
before_all (n ∷ ns) c = before n (before_all ns c)

pub all-unsound : (ns : List ℕ) (m : ℕ) → before_all ns (unsound m) ≡ unsound m
unfolding before_all before
all-unsound [] m = refl
all-unsound (n ∷ ns) m = rw (all-unsound ns m)

pub all-copies : (ns : List ℕ) → before_all ns (copies []) ≡ copies ns
unfolding before_all before
all-copies [] = refl
all-copies (n ∷ ns) = rw (all-copies ns)

pub all_snoc : (ns : List ℕ) (m : ℕ) (c : Copies) → before_all ns (before m c) ≡ before_all (ns ++ (m ∷ [])) c
unfolding before_all
all_snoc [] m c = refl
all_snoc (n ∷ ns) m c = ap (before n) (all_snoc ns m c)

-- what the copy at a branch makes of the copies below it
abbrev Copy : Type 0
Copy = Result (Option NodeNo) UnsoundNode

unfoldable copies_after : Copy → Copies → Copies
copies_after (Ok None) c = copies []
copies_after (Ok (Some m)) c = before m.0 c
copies_after (Err u) c = unsound u.0.0

after-pick : (t : Bool) (x y : Copy) (c : Copies) → copies_after (pick t x y) c ≡ pick t (copies_after x c) (copies_after y c)
after-pick true x y c = refl
after-pick false x y c = refl

-- the last pair of a node
last_pair : {K A : Type 0} (C : Shape) (w : List ℕ) (g : ℕ → K) (n : ℕ) (f : K → ℕ → A) (a : A) (i m : ℕ) → at_last f a (pairs_from C w g n i (suc m)) ≡ f (g (child C w n (i + m))) (row C w n (i + m))
unfolding at_last pairs_from
last_pair C w g n f a i zero = rw add-zero
last_pair C w g n f a i (suc m) = let z : i + 1 + m ≡ i + suc m = omega arith in last_pair C w g n f a (i + 1) m ∙ rw z

-- what the first of the nodes trimmed loses
unfoldable pub lost_of : List (ℕ × ℕ) → ℕ
lost_of [] = 0
lost_of (t ∷ ts) = t.1

unfoldable pub others : List (ℕ × ℕ) → List (ℕ × ℕ)
others [] = []
others (t ∷ ts) = ts

-- what the positions of an edge say
pub lost-at : (l : List Position) (d i : ℕ) → (d ≤ i → (get_or l i no_position).index ≡ 0) → lost_of (trims_from l i (d - i)) ≡ (get_or l i no_position).index
unfolding lost_of
lost-at l d i z =
    by_test (ltb i d)
    (λ t. rw (trims-turn l d i (ltb-true i d t)))
    (λ t. rw (trims-stop l d i (ltb-false i d t)) (sym (z (ltb-false i d t))))

pub others-at : (l : List Position) (d i : ℕ) → others (trims_from l i (d - i)) ≡ trims_from l (i + 1) (d - (i + 1))
unfolding others
others-at l d i =
    by_test (ltb i d)
    (λ t. rw (trims-turn l d i (ltb-true i d t)))
    (λ t. rw (trims-stop l d i (ltb-false i d t)) (sym (trims-stop l d (i + 1) (omega (arith, ltb-false i d t)))))

module _ (C : Shape) (P : ℕ) (w : List ℕ) (e : ℕ) where
  -- how many entries of node n stay
  pub kept-is : (h n : ℕ) → kept h e (level C w (suc h) n) (start C w n) ≡ count C w n - lost_of (trims (suc h) e (level C w (suc h) n) (start C w n))
  unfolding kept trims lost_of level
  kept-is h n =
      let ps = pairs_from C w (level C w h) n 0 (count C w n) in
      by_test (ltb (start C w n) e)
      (λ t. rw t (omega (arith, cut-length e (cut h e) ps, length_pairs C w (level C w h) n 0 (count C w n))))
      (λ t. rw t (omega (arith, length_pairs C w (level C w h) n 0 (count C w n))))

  -- a node of which one entry stays, the last: what is trimmed below it
  pub trims-child : (h n c : ℕ) → count C w n ≡ suc c → row C w n 0 ≡ start C w n → kept (suc h) e (level C w (suc (suc h)) n) (start C w n) ≡ 1
      → others (trims (suc (suc h)) e (level C w (suc (suc h)) n) (start C w n)) ≡ trims (suc h) e (level C w (suc h) (child C w n c)) (row C w n c)
  unfolding kept others trims level
  trims-child h n c z r k =
      let ps = pairs_from C w (level C w (suc h)) n 0 (count C w n) in
      by_test (ltb (start C w n) e)
      (λ t. let k₂ : length (cut_pairs e (cut (suc h) e) ps) ≡ 1 = rw t at k in
      spot C w (level C w (suc h)) n e (cut (suc h) e) 0 (count C w n)
      (λ q. absurd (omega (arith, k₂, ap (λ (l : List (ℕ × Level (suc h))). length l) q)))
      (λ (x : SpotAt C w (level C w (suc h)) n e (cut (suc h) e) 0 (count C w n)).
      let m = length_pairs C w (level C w (suc h)) n (x.place + 1) (0 + count C w n - (x.place + 1)) in
      let y : x.place ≡ c = omega (arith, k₂, ap (λ (l : List (ℕ × Level (suc h))). length l) x.cuts, m, x.high) in
      rw t (x.trimmed_in (trims (suc h) e) ∙ ap (λ (j : ℕ). trims (suc h) e (level C w (suc h) (child C w n j)) (row C w n j)) y)))
      (λ t. let k₂ : length ps ≡ 1 = rw t at k in
      let y : c ≡ 0 = omega (arith, k₂, length_pairs C w (level C w (suc h)) n 0 (count C w n)) in
      let b : ltb (row C w n c) e ≡ false = ap (λ (j : ℕ). ltb (row C w n j) e) y ∙ ap (λ (j : ℕ). ltb j e) r ∙ t in
      rw (t, b))

  -- the check of one level
  pub many : (h n : ℕ) → (kept (suc h) e (level C w (suc (suc h)) n) (start C w n) ≡ 1 → ⊥) → copies_from C P (suc h) e (level C w (suc (suc h)) n) (start C w n) ≡ copies []
  unfolding copies_from
  many h n d = rw (ne_eqb (kept (suc h) e (level C w (suc (suc h)) n) (start C w n)) 1 d)

  pub at_leaf : (n : ℕ) → copies_from C P 0 e (level C w 1 n) (start C w n) ≡ copies []
  unfolding copies_from
  at_leaf n = refl

  module _ (h n c : ℕ) (z : count C w n ≡ suc c) (k : kept (suc h) e (level C w (suc (suc h)) n) (start C w n) ≡ 1) where
    pub one : copies_from C P (suc h) e (level C w (suc (suc h)) n) (start C w n)
        ≡ pick (ltb (child C w n c) P) (pick (sound C h (level C w (suc h) (child C w n c)) (row C w n c) Open) (before (child C w n c) (copies_from C P h e (level C w (suc h) (child C w n c)) (row C w n c))) (unsound (child C w n c))) (unsound n)
    unfolding copies_from level
    one = rw (k, z, last_pair C w (level C w (suc h)) n _ (copies []) 0 c, zero-add c)

  -- the same by the copy at a branch of which k entries go
  copies_at : (h n k : ℕ) → 0 < h → 1 ≤ count C w n → kept h e (level C w (suc h) n) (start C w n) ≡ count C w n - k
      → copies_from C P h e (level C w (suc h) n) (start C w n) ≡ copies_after (copy_at C P w n h k) (copies_from C P (h - 1) e (level C w (suc (h - 1)) (child C w n (count C w n - 1))) (row C w n (count C w n - 1)))
  unfolding copy_at copies_after level
  copies_at zero n k l o q = absurd (omega arith)
  copies_at (suc h) n k l o q =
      let z : suc h - 1 ≡ h = omega arith in
      by_test (eqb (count C w n - k) 1)
      (λ u. one h n (count C w n - 1) (omega arith) (q ∙ eqb-true (count C w n - k) 1 u) ∙ sym (rw (z, u, ← sound-at (level C w h) C w h (child C w n (count C w n - 1)) (row C w n (count C w n - 1)) Open) (simp after-pick)))
      (λ u. many h n (λ y. eqb-false (count C w n - k) 1 u (sym q ∙ y)) ∙ sym (rw u))

pub first_pair_lem : (C : Shape) (w : List ℕ) (n c r : ℕ) (z : ℕ → Bool) → T (rows z r (pairs_from C w (λ (x : ℕ). x) n 0 c)) → (1 ≤ c) × (row C w n 0 ≡ r)
unfolding rows pairs_from
first_pair_lem C w n zero r z t = absurd t
first_pair_lem C w n (suc c) r z t = (omega arith, eqb→eq (row C w n 0) r (and_l (eqb (row C w n 0) r) (rises z (row C w n 0) (pairs_from C w (λ (x : ℕ). x) n (0 + 1) c)) t))

-- a child is copied
picked : (C : Shape) (P : ℕ) (w : List ℕ) (n h k : ℕ) (m : NodeNo) → Ok (Some m) ≡ copy_at C P w n h k
    → (m ≡ record { 0 = child C w n (count C w n - 1) }) × (count C w n - k ≡ 1) × (child C w n (count C w n - 1) < P) × (sound C (h - 1) (node_at C w (child C w n (count C w n - 1))) (row C w n (count C w n - 1)) Open ≡ true)
unfolding copy_at
picked C P w n h k m q =
    let c = child C w n (count C w n - 1) in
    by_test (eqb (count C w n - k) 1)
    (λ u. by_test (ltb c P)
    (λ v. by_test (sound C (h - 1) (node_at C w c) (row C w n (count C w n - 1)) Open)
    (λ x. let y : Ok (Some m) ≡ Ok (Some (record { 0 = c })) = rw (u, v, x) at q in (cc, eqb-true (count C w n - k) 1 u, ltb-true c P v, x))
    (λ x. let y = rw (u, v, x) at q in other (cc)))
    (λ v. let y = rw (u, v) at q in other (cc)))
    (λ u. let y = rw u at q in other (cc))
  where
    other : {A : Type 0} → ◌≡◌ {A = ℕ} 0 1 → A
    other e = absurd (omega arith)

-- The loop -----------------------------------------------------------------------------------------------
abbrev whole : Shape → List ℕ → ℕ → ℕ → List (ℕ × ℕ)
whole C w root e = trims (suc (height C w root)) e (level C w (suc (height C w root)) root) (start C w root)

abbrev all : Shape → ℕ → List ℕ → ℕ → ℕ → Copies
all C P w root e = copies_from C P (height C w root) e (level C w (suc (height C w root)) root) (start C w root)

-- node n of height h, at level i, is reached
pub record Copying (C : Shape) (P : ℕ) (w : List ℕ) (root : ℕ) (l : List Position) (d : ℕ) (nodes : List NodeNo) (n h i : ℕ) : Type 0 where
  pub low : height C w root ≤ 31
  pub none : (j : ℕ) → d ≤ j → j < height C w root + 1 → (get_or l j no_position).index ≡ 0
  pub inside : n < P
  pub good : sound C h (node_at C w n) (start C w n) Open ≡ true
  pub high : h + i ≡ height C w root
  pub long : length nodes ≡ 32
  pub found : AllIn P nodes i
  pub told : (e : ℕ) → whole C w root e ≡ trims_from l 0 d → (trims (suc h) e (level C w (suc h) n) (start C w n) ≡ trims_from l i (d - i)) × (all C P w root e ≡ before_all (listed nodes 0 i) (copies_from C P h e (level C w (suc h) n) (start C w n)))

module _ {C : Shape} {P : ℕ} {w : List ℕ} {root : ℕ} {l : List Position} {d : ℕ} {nodes : List NodeNo} {n h i : ℕ} (G : Copying C P w root l d nodes n h i) where
  pub own : (count C w n ≤ C.cap) × (row C w n 0 ≡ start C w n) × (1 ≤ count C w n)
  own =
      let s = soundly C h (node_at C w n) (start C w n) Open (holds _ G.good) in
      let f = first_pair_lem C w n (count C w n) (start C w n) (end_sound h Open (end C w n)) s.rise in
      (omega (arith, s.many, length_pairs C w (λ (x : ℕ). x) n 0 (count C w n)), f.1, f.0)

  -- how many entries stay, by the positions
  keeps : (e : ℕ) → whole C w root e ≡ trims_from l 0 d → kept h e (level C w (suc h) n) (start C w n) ≡ count C w n - (get_or l i no_position).index
  keeps e q = kept-is C P w e h n ∙ ap (λ (ts : List (ℕ × ℕ)). count C w n - lost_of ts) (G.told e q).0 ∙ ap (λ (j : ℕ). count C w n - j) (lost-at l d i (λ m. G.none i m (omega (arith, G.high))))

  pub ends : h ≤ 0 → (e : ℕ) → whole C w root e ≡ trims_from l 0 d → copies (listed nodes 0 i) ≡ all C P w root e
  ends z e q =
      let y : h ≡ 0 = omega arith in
      sym ((G.told e q).1 ∙ ap (λ (j : ℕ). before_all (listed nodes 0 i) (copies_from C P j e (level C w (suc j) n) (start C w n))) y ∙ ap (before_all (listed nodes 0 i)) (at_leaf C P w e n) ∙ all-copies (listed nodes 0 i))

  module _ (t : 0 < h) where
    abbrev kid : ℕ
    kid = child C w n (count C w n - 1)

    abbrev r : ℕ
    r = row C w n (count C w n - 1)

    -- what one level comes to
    turn : (c : Copy) → c ≡ copy_at C P w n h (get_or l i no_position).index → (e : ℕ) → whole C w root e ≡ trims_from l 0 d → all C P w root e ≡ before_all (listed nodes 0 i) (copies_after c (copies_from C P (h - 1) e (level C w (suc (h - 1)) kid) r))
    turn c x e q = rw x ((G.told e q).1 ∙ ap (before_all (listed nodes 0 i)) (copies_at C P w e h n (get_or l i no_position).index t own.2 (keeps e q)))

    pub stops : Ok None ≡ copy_at C P w n h (get_or l i no_position).index → (e : ℕ) → whole C w root e ≡ trims_from l 0 d → copies (listed nodes 0 i) ≡ all C P w root e
    unfolding copies_after
    stops x e q = sym (turn (Ok None) x e q ∙ all-copies (listed nodes 0 i))

    pub spoils : (u : UnsoundNode) → Err u ≡ copy_at C P w n h (get_or l i no_position).index → (e : ℕ) → whole C w root e ≡ trims_from l 0 d → unsound u.0.0 ≡ all C P w root e
    unfolding copies_after
    spoils u x e q = sym (turn (Err u) x e q ∙ all-unsound (listed nodes 0 i) u.0.0)

    module _ (x : Ok (Some (record { 0 = kid })) ≡ copy_at C P w n h (get_or l i no_position).index) where
      starts : start C w kid ≡ r
      starts = (soundly C (h - 1) (node_at C w kid) r Open (holds _ (picked C P w n h (get_or l i no_position).index (record { 0 = kid }) x).3)).begin

      -- what is trimmed from the child on
      below : (e : ℕ) → whole C w root e ≡ trims_from l 0 d → trims (suc (h - 1)) e (level C w (suc (h - 1)) kid) (start C w kid) ≡ trims_from l (i + 1) (d - (i + 1))
      below e q =
          let up : h ≡ suc (h - 1) = omega arith in
          let k = ap (λ (j : ℕ). kept j e (level C w (suc j) n) (start C w n)) (sym up) ∙ keeps e q ∙ (picked C P w n h (get_or l i no_position).index (record { 0 = kid }) x).1 in
          ap (trims (suc (h - 1)) e (level C w (suc (h - 1)) kid)) starts ∙ sym (trims-child C P w e (h - 1) n (count C w n - 1) (omega (arith, own.2)) own.1 k)
          ∙ ap (λ (j : ℕ). others (trims (suc j) e (level C w (suc j) n) (start C w n))) (sym up) ∙ ap others (G.told e q).0 ∙ others-at l d i

      next : Copying C P w root l d (set nodes i (record { 0 = kid })) kid (h - 1) (i + 1)
      unfolding AllIn copies_after
      next =
          let p = picked C P w n h (get_or l i no_position).index (record { 0 = kid }) x in
          record {
            low = G.low;
            none = G.none;
            inside = p.2;
            good = ap (λ (s : ℕ). sound C (h - 1) (node_at C w kid) s Open) starts ∙ p.3;
            high = omega (arith, G.high);
            long = length-set nodes i (record { 0 = kid }) ∙ G.long;
            found = λ j m. by_test (eqb j i)
                (λ y. rw (eqb-true j i y, get_or-set_same nodes i (record { 0 = kid }) (record { 0 = 0 }) (omega (arith, G.high, G.low, G.long))) p.2)
                (λ y. rw (get_or-set_other nodes i j (record { 0 = kid }) (record { 0 = 0 }) (eqb-false j i y)) (G.found j (omega (arith, eqb-false j i y))));
            told = λ e q. (
              below e q,
              turn (Ok (Some (record { 0 = kid }))) x e q ∙ all_snoc (listed nodes 0 i) kid (copies_from C P (h - 1) e (level C w (suc (h - 1)) kid) r)
                  ∙ ap (λ (ns : List ℕ). before_all ns (copies_from C P (h - 1) e (level C w (suc (h - 1)) kid) r)) (sym (listed-set nodes i (record { 0 = kid }) (omega (arith, G.high, G.low, G.long))))
                  ∙ ap (λ (s : ℕ). before_all (listed (set nodes i (record { 0 = kid })) 0 (i + 1)) (copies_from C P (h - 1) e (level C w (suc (h - 1)) kid) s)) (sym starts),
            );
          }

    pub goes : (m : NodeNo) → Ok (Some m) ≡ copy_at C P w n h (get_or l i no_position).index → (g : ℕ) → g ≡ h - 1 → Copying C P w root l d (set nodes i m) m.0 g (i + 1)
    goes m x g q = rw q (subst (λ (b : NodeNo). Ok (Some b) ≡ copy_at C P w n h (get_or l i no_position).index → Copying C P w root l d (set nodes i b) b.0 (h - 1) (i + 1)) (sym (picked C P w n h (get_or l i no_position).index m x).0) next x)

-- at the root
pub first : (C : Shape) (P : ℕ) (w : List ℕ) (root : ℕ) (edge : Path) → NoneBelow edge (height C w root + 1) → SoundTop C P w root → Copying C P w root edge.positions edge.depth (replicate 32 (record { 0 = 0 })) root (height C w root) 0
unfolding AllIn listed before_all
first C P w root edge none s =
    record { low = s.low; none = none; inside = s.inside; good = s.good; high = omega arith; long = refl; found = λ j y. absurd (omega arith); told = λ e q. (q ∙ ap (trims_from edge.positions 0) (sym (sub-zero edge.depth)), refl) }
