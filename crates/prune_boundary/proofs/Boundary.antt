-- Where the last entry named ends at e, the path to its leaf is the boundary of the cut.
use Prim.Native.Nat.{ℕ, zero, suc, ◌+◌, ◌-◌, ◌<◌, ◌≤◌}
use mathlib.Core.List.{List, [], ◌∷◌, ◌++◌, append-nil}
use mathlib.Core.Bool.{Bool, ◌&&◌}
use mathlib.Core.Path.{◌≡◌, refl, sym, ap, ◌∙◌, subst}
use mathlib.Core.Logic.{inr}
use native.Mathlib.Omega.{arith}
use native.Mathlib.Nat.{zero-add}
use lib.ListN.{length}
use lib.Dec.{T, leb, ltb, eqb, eqb→eq}
use borrow.Author.Tests.{lt-ltb, le-ltb, ltb-true, ltb-false}
use Rattle.model.specs.Words.{Shape, pick, height, count, start, end, row, child, row_limit}
use Rattle.model.specs.Tree.{Limit, Open, Below, Level, pairs_from, level, next, last, meets, end_sound, all_pairs, Under, AllSound}
use Rattle.model.specs.Cut.{gone, stays, if_gone, keep, cut_pairs, trim, cut, went_pairs, went, trims_pairs, trims}
use Rattle.model.specs.declared.path.Position.{Position}
use Rattle.model.proofs.Tests.{by_test, and_l, and_r}
use Rattle.model.proofs.Sound.{chain, sound-below, soundly, rows, rises, sound-ends}
use Rattle.model.proofs.Place.{risen}
use Rattle.model.proofs.Frame.{length_pairs}
use Rattle.model.proofs.Writes.{pairs_snoc}
use Rattle.law_prune.proofs.Rests.{with_pairs}
use Rattle.tree_turn.specs.Left.{bound}
use Rattle.law_formed.proofs.Clean.{leaf-rises}
use Rattle.model.specs.Prune.{entry_end}
use Rattle.prune_boundary.specs.Behind.{Passed, limit_at, Done, Above, Behind}
use Rattle.prune_leaf.specs.Progress.{Last}
use Rattle.prune_boundary.proofs.Behind.{tall, behind-out}
use Rattle.prune_boundary.specs.Edge.{Meets, position_of, first_pairs, first_nodes, went_of, Stays, trims_up, Cutting}
use Rattle.prune_boundary.proofs.Goes.{cut-append, went-append, trims-append, pairs-split, all-went, pairs-go, goes}

module _ (C : Shape) (P : ℕ) (w : List ℕ) where
  -- a node that passed its test starts at its first row, and its rows rise
  first-low : (h n c r : ℕ) (z : ℕ → Bool) → T (rows z r (pairs_from C w (level C w h) n 0 c)) → (j : ℕ) → j ≤ c - 1 → r ≤ row C w n j
  unfolding rows pairs_from
  first-low h n zero r z t j l = absurd t
  first-low h n (suc k) r z t j l =
      let f : row C w n 0 ≡ r = eqb→eq (row C w n 0) r (search (and_l)) in
      by_test (ltb 0 j)
      (λ u. omega (arith, f, risen C w n (level C w h) z 0 k (and_r (eqb (row C w n 0) r) (rises z (row C w n 0) (pairs_from C w (level C w h) n (0 + 1) k)) t) 0 j (omega arith) (ltb-true 0 j u) (omega arith)))
      (λ u. let y : j ≡ 0 = omega (arith, ltb-false 0 j u) in omega (arith, f, ap (row C w n) y))

  pub row_low : (h n : ℕ) (up : List Position) → Passed C P w h n up → (j : ℕ) → j ≤ count C w n - 1 → start C w n ≤ row C w n j
  unfolding level
  row_low h n up p = first-low h n (count C w n) (start C w n) (end_sound h (bound C w up) (end C w n)) (soundly C h (level C w (suc h) n) (start C w n) (bound C w up) p.good).rise

  -- the entry that leads down: what lies before it is sound, up to its row
  pub led : (root h n : ℕ) (q : Position) (up : List Position) → Above C P w root h n (q ∷ up)
      → (q.index - 1 < count C w q.node.0) × all_pairs (AllSound C P (suc h)) (first_pairs C w (suc h) q.node.0 (q.index - 1)) (Below (row C w q.node.0 (q.index - 1))) × (start C w q.node.0 ≤ row C w q.node.0 (q.index - 1))
  unfolding Above Done
  led root h n q up a =
      let l : q.index - 1 < count C w q.node.0 = omega (arith, a.some, a.within) in
      (l, rw (lt-ltb (q.index - 1) (count C w q.node.0) l) at a.done, row_low (suc h) q.node.0 up a.passed (q.index - 1) (omega arith))

  module _ (e : ℕ) where
    -- node n, of which entry k is the first that stays
    module _ (h n k : ℕ) (l : k < count C w n) (z : cut_pairs e (cut h e) (first_pairs C w h n k) ≡ []) where
      abbrev later : List (ℕ × Level h)
      later = pairs_from C w (level C w h) n (k + 1) (count C w n - (k + 1))

      parts : first_pairs C w h n (count C w n) ≡ first_pairs C w h n k ++ ((row C w n k, level C w h (child C w n k)) ∷ later)
      unfolding pairs_from
      parts =
          let a : count C w n ≡ k + suc (count C w n - (k + 1)) = omega arith in
          ap (λ (c : ℕ). first_pairs C w h n c) a ∙ pairs-split C w (level C w h) n 0 k (suc (count C w n - (k + 1))) ∙ rw (zero-add k)

      later-length : length later ≡ count C w n - (k + 1)
      later-length = length_pairs C w (level C w h) n (k + 1) (count C w n - (k + 1))

      cut-is : (y : Level h) → cut h e (level C w h (child C w n k)) (row C w n k) ≡ stays y → cut_pairs e (cut h e) (first_pairs C w h n (count C w n)) ≡ (pick (ltb (row C w n k) e) e (row C w n k), y) ∷ later
      unfolding cut_pairs keep
      cut-is y q = ap (cut_pairs e (cut h e)) parts ∙ cut-append e (cut h e) (first_pairs C w h n k) ((row C w n k, level C w h (child C w n k)) ∷ later) z ∙ rw q

      trims-is : (y : Level h) → cut h e (level C w h (child C w n k)) (row C w n k) ≡ stays y → start C w n < e
          → trims (suc h) e (level C w (suc h) n) (start C w n) ≡ (n, k) ∷ trims h e (level C w h (child C w n k)) (row C w n k)
      unfolding trims trims_pairs if_gone level
      trims-is y q b =
          let lost : length (first_pairs C w h n (count C w n)) - length (cut_pairs e (cut h e) (first_pairs C w h n (count C w n))) ≡ k =
          omega (arith, length_pairs C w (level C w h) n 0 (count C w n), ap (λ (ps : List (ℕ × Level h)). length ps) (cut-is y q), later-length) in
          let more : trims_pairs (cut h e) (trims h e) (first_pairs C w h n (count C w n)) ≡ trims h e (level C w h (child C w n k)) (row C w n k) =
          ap (trims_pairs (cut h e) (trims h e)) parts ∙ trims-append e (cut h e) (trims h e) (first_pairs C w h n k) ((row C w n k, level C w h (child C w n k)) ∷ later) z ∙ rw q in
          rw (lt-ltb (start C w n) e b, lost, more)

      went-is : (y : Level h) → cut h e (level C w h (child C w n k)) (row C w n k) ≡ stays y
          → went_pairs (cut h e) (went h e) (first_pairs C w h n (count C w n)) ≡ first_nodes C w h n k ++ went h e (level C w h (child C w n k)) (row C w n k)
      unfolding went_pairs if_gone
      went-is y q =
          ap (went_pairs (cut h e) (went h e)) parts ∙ went-append e (cut h e) (went h e) (first_pairs C w h n k) ((row C w n k, level C w h (child C w n k)) ∷ later) z
          ∙ rw (q, append-nil, all-went h e (first_pairs C w h n k) z)

    late : (h : ℕ) (x : Level h) (r : ℕ) → r ≡ e → (cut h e x r ≡ stays x) × (trims h e x r ≡ []) × (went h e x r ≡ [])
    unfolding cut trims went
    late zero x r q = let z = le-ltb r e (omega arith) in (rw z, refl, refl)
    late (suc h) x r q = let z = le-ltb r e (omega arith) in (rw z, rw z, rw z)

    -- the node at which the boundary ends
    pub stays_here : (h n k : ℕ) → k < count C w n → start C w n < e → row C w n k ≡ e → cut_pairs e (cut h e) (first_pairs C w h n k) ≡ [] → height C w n ≡ h → Stays C w e h n ((n, k) ∷ [])
    unfolding went_of
    stays_here h n k l b q z hi =
        let t = late h (level C w h (child C w n k)) (row C w n k) q in
        record {
          first = _;
          others = _;
          left = cut-is h n k l z (level C w h (child C w n k)) t.0;
          below = b;
          trimmed = trims-is h n k l z (level C w h (child C w n k)) t.0 b ∙ ap (λ (ts : List (ℕ × ℕ)). (n, k) ∷ ts) t.1;
          gone = went-is h n k l z (level C w h (child C w n k)) t.0 ∙ rw (t.2, hi);
        }

    -- what is left of a node that stays
    stay-cut : (h n : ℕ) (T₀ : List (ℕ × ℕ)) (s : Stays C w e h n T₀) → (y : Level (suc h)) × (cut (suc h) e (level C w (suc h) n) (start C w n) ≡ stays y) × (went (suc h) e (level C w (suc h) n) (start C w n) ≡ went_of C w T₀)
    unfolding cut trim went if_gone level
    stay-cut h n T₀ s = (with_pairs e (level C w (suc h) n) (s.first ∷ s.others), rw (lt-ltb (start C w n) e s.below, s.left), rw (lt-ltb (start C w n) e s.below, s.left, s.gone) (append-nil (went_of C w T₀)))

    -- a node whose child stays
    pub stays_up : (root h n : ℕ) (q : Position) (up : List Position) (T₀ : List (ℕ × ℕ)) → Stays C w e h n T₀ → Above C P w root h n (q ∷ up)
        → Stays C w e (suc h) q.node.0 ((q.node.0, q.index - 1) ∷ T₀)
    unfolding Above Done went_of
    stays_up root h n q up T₀ s a =
        let m = q.node.0 in
        let k = q.index - 1 in
        let g = led root h n q up a in
        let below : start C w m < e = omega (arith, g.2, s.below, a.begins) in
        let z = pairs-go C P e (suc h) (goes C P e (suc h)) (row C w m k) (omega (arith, s.below, a.begins)) (first_pairs C w (suc h) m k) g.1 in
        let st = stay-cut h n T₀ s in
        let c : (cut (suc h) e (level C w (suc h) (child C w m k)) (row C w m k) ≡ stays st.0) × (trims (suc h) e (level C w (suc h) (child C w m k)) (row C w m k) ≡ T₀) × (went (suc h) e (level C w (suc h) (child C w m k)) (row C w m k) ≡ went_of C w T₀) =
        rw (← a.leads, ← a.begins) (st.1, s.trimmed, st.2) in
        record {
          first = _;
          others = _;
          left = cut-is (suc h) m k g.0 z st.0 c.0;
          below = below;
          trimmed = trims-is (suc h) m k g.0 z st.0 c.0 below ∙ ap (λ (ts : List (ℕ × ℕ)). (m, k) ∷ ts) c.1;
          gone = went-is (suc h) m k g.0 z st.0 c.0 ∙ ap (λ (ns : List ℕ). first_nodes C w (suc h) m k ++ ns) c.2 ∙ ap (λ (j : ℕ). first_nodes C w j m k ++ went_of C w T₀) (sym (tall C P w (suc h) m up a.passed));
        }

    -- up to the root
    pub stays-root : (root h n : ℕ) (up : List Position) (T₀ : List (ℕ × ℕ)) → Passed C P w h n up → Stays C w e h n T₀ → Above C P w root h n up
        → Stays C w e (height C w root) root (trims_up up T₀)
    unfolding Above trims_up
    stays-root root h n [] T₀ p s a =
        subst (λ (m : ℕ). Stays C w e (height C w m) m T₀) a (subst (λ (j : ℕ). Stays C w e j n T₀) (sym (tall C P w h n [] p)) s)
    stays-root root h n (q ∷ up) T₀ p s a =
        stays-root root (suc h) q.node.0 up ((q.node.0, q.index - 1) ∷ T₀) a.passed (stays_up root h n q up T₀ s a) a.above

    -- Climbing from the leaf of the last entry named ---------------------------------------------------------
    ends_at : (b : Limit) (x l : ℕ) → T (end_sound 0 b x l) → Meets b x
    unfolding end_sound meets Meets
    ends_at Open x l t = tt
    ends_at (Below y) x l t = eqb→eq x y (and_r (ltb l x && leb x row_limit) (eqb x y) t)

    -- a leaf ends at what is next for it
    lands-out : (h n : ℕ) (up : List Position) → Passed C P w h n up → Meets (last h (end C w n) (bound C w up)) e → Meets (bound C w up) e
    unfolding last level Meets
    lands-out zero n up p m = let s = sound-ends C 0 (level C w 1 n) (start C w n) (bound C w up) p.good in subst (Meets (bound C w up)) (sym m) (ends_at (bound C w up) (end C w n) s.0 s.1)
    lands-out (suc h) n up p m = m

    -- all entries of node n go
    all-gone : (h n k : ℕ) → count C w n ≡ k → start C w n < e → cut_pairs e (cut h e) (first_pairs C w h n k) ≡ [] → cut (suc h) e (level C w (suc h) n) (start C w n) ≡ gone
    unfolding cut trim level
    all-gone h n k q b z = rw (lt-ltb (start C w n) e b, q, z)

    cut_snoc : (h : ℕ) (ps : List (ℕ × Level h)) (r : ℕ) (x : Level h) → cut_pairs e (cut h e) ps ≡ [] → cut h e x r ≡ gone → cut_pairs e (cut h e) (ps ++ ((r, x) ∷ [])) ≡ []
    unfolding cut_pairs keep
    cut_snoc h ps r x z g = cut-append e (cut h e) ps ((r, x) ∷ []) z ∙ rw g

    up-lands : (root h n k : ℕ) (q : Position) (up : List Position) → Cutting C w P e root h n k (q ∷ up) → count C w n ≤ k → Meets (limit_at C P w (suc h) q.node.0 q.index up) e
    unfolding bound last Behind
    up-lands root h n k q up c l =
        lands-out h n (q ∷ up) c.behind.passed (subst (λ (b : Limit). Meets b e) (ap (λ (t : Bool). pick t (Below (row C w n k)) (last h (end C w n) (bound C w (q ∷ up)))) (le-ltb k (count C w n) l)) c.lands)

    -- then the entry that leads to it is the last that goes
    pub cutting-up : (root h n k : ℕ) (q : Position) (up : List Position) → Cutting C w P e root h n k (q ∷ up) → count C w n ≤ k → Cutting C w P e root (suc h) q.node.0 q.index up
    unfolding Behind Above Done
    cutting-up root h n k q up c l =
        let m = q.node.0 in
        let j = q.index - 1 in
        let a = c.behind.above in
        let full : count C w n ≡ k = omega (arith, c.behind.within) in
        let d = led root h n q up a in
        let z = pairs-go C P e (suc h) (goes C P e (suc h)) (row C w m j) (omega (arith, c.below, a.begins)) (first_pairs C w (suc h) m j) d.1 in
        let g : cut (suc h) e (level C w (suc h) (child C w m j)) (row C w m j) ≡ gone = rw (← a.leads, ← a.begins) (all-gone h n k full c.below c.gone) in
        let y : q.index ≡ suc j = omega (arith, a.some) in
        record {
          behind = behind-out C P w root h (position_of n k) (q ∷ up) c.behind (inr l);
          some = a.some;
          below = omega (arith, d.2, c.below, a.begins);
          lands = up-lands root h n k q up c l;
          gone = rw (y, pairs_snoc C w (level C w (suc h)) m 0 j, zero-add j) (cut_snoc (suc h) (first_pairs C w (suc h) m j) (row C w m j) (level C w (suc h) (child C w m j)) z g);
        }

    -- the leaf of the last entry named
    all-front : {K : Type 0} (f : ℕ → K) (Q : K → ℕ → Limit → Type 0) (n i a b : ℕ) (x : Limit) → all_pairs Q (pairs_from C w f n i (a + b)) x → all_pairs Q (pairs_from C w f n i a) (next (pairs_from C w f n (i + a) b) x)
    unfolding all_pairs pairs_from next
    all-front f Q n i zero b x g = tt
    all-front f Q n i (suc zero) b x g = let y : suc zero + b ≡ suc b = omega arith in ((rw y at g).0, tt)
    all-front f Q n i (suc (suc a)) b x g =
        let y : suc (suc a) + b ≡ suc (suc (a + b)) = omega arith in
        let v : i + 1 + suc a ≡ i + suc (suc a) = omega arith in
        let u : suc (a + b) ≡ suc a + b = omega arith in
        let g₂ = rw y at g in
        let g₃ = all-front f Q n (i + 1) (suc a) b x (subst (λ (c : ℕ). all_pairs Q (pairs_from C w f n (i + 1) c) x) u g₂.1) in
        (g₂.0, rw v at g₃)

    next-limit : (n u : ℕ) (up : List Position) → u ≤ count C w n → next (pairs_from C w (level C w 0) n (0 + u) (count C w n - u)) (Below (end C w n)) ≡ limit_at C P w 0 n u up
    unfolding next pairs_from last
    next-limit n u up l =
        by_test (ltb u (count C w n))
        (λ t. let z : count C w n - u ≡ suc (count C w n - (u + 1)) = omega (arith, ltb-true u (count C w n) t) in rw (t, z, zero-add))
        (λ t. let z : count C w n - u ≡ 0 = omega (arith, ltb-false u (count C w n) t) in rw (t, z))

    leaf-pairs : (n : ℕ) (up : List Position) → Passed C P w 0 n up → all_pairs (AllSound C P 0) (first_pairs C w 0 n (count C w n)) (Below (end C w n))
    unfolding AllSound level
    leaf-pairs n up p = leaf-rises C (level C w 1 n) (start C w n) (bound C w up) p.good

    leaf-done : (n u : ℕ) (up : List Position) → Passed C P w 0 n up → u ≤ count C w n → Done C P w 0 n u up
    unfolding Done AllSound
    leaf-done n u up p l =
        let z : count C w n ≡ u + (count C w n - u) = omega arith in
        rw (← next-limit n u up l) (all-front (level C w 0) (AllSound C P 0) n 0 u (count C w n - u) (Below (end C w n)) (rw z at (leaf-pairs n up p)))

    leaf-limit : (n u : ℕ) (up : List Position) → Last C w n u e → limit_at C P w 0 n u up ≡ Below e
    unfolding entry_end last
    leaf-limit n u up k =
        let z : u - 1 + 1 ≡ u = omega (arith, k.some) in
        by_test (ltb u (count C w n))
        (λ t. let q : e ≡ row C w n u = k.ends ∙ rw (z, t) in rw (t, q))
        (λ t. let q : e ≡ end C w n = k.ends ∙ rw (z, t) in rw (t, q))

    first_under : (n u x : ℕ) → 1 ≤ u → all_pairs (AllSound C P 0) (first_pairs C w 0 n u) (Below x) → row C w n 0 < x
    unfolding pairs_from Under
    first_under n zero x l a = absurd (omega arith)
    first_under n (suc u) x l a = chain (AllSound C P 0) (sound-below C P 0) (row C w n 0, level C w 0 (child C w n 0)) (pairs_from C w (level C w 0) n (0 + 1) u) (Below x) a

    pub cutting-leaf : (root n u i : ℕ) (up : List Position) → Behind C P w root 0 (position_of n i ∷ up) → Last C w n u e → Cutting C w P e root 0 n u up
    unfolding Behind Meets Done
    cutting-leaf root n u i up b k =
        let d = leaf-done n u up b.passed k.within in
        let q = leaf-limit n u up k in
        let a : all_pairs (AllSound C P 0) (first_pairs C w 0 n u) (Below e) = rw q at d in
        record {
          behind = record { within = k.within; passed = b.passed; done = d; above = b.above };
          some = k.some;
          below = omega (arith, row_low 0 n up b.passed 0 (omega arith), first_under n u e k.some a);
          lands = rw q refl;
          gone = pairs-go C P e 0 (goes C P e 0) e (omega arith) (first_pairs C w 0 n u) a;
        }
