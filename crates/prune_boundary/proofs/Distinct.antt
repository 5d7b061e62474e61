-- The nodes of an edge and those that go: each stands once, in the pool, and what goes starts before the cut.
use Prim.Native.Nat.{ℕ, zero, suc, ◌+◌, ◌-◌, ◌<◌, ◌≤◌}
use mathlib.Core.List.{List, [], ◌∷◌}
use mathlib.Core.Path.{◌≡◌, refl, sym, ap, ◌∙◌, subst}
use native.Mathlib.Omega.{arith}
use lib.Dec.{ltb, eqb}
use borrow.Author.Tests.{lt-ltb, ltb-true, ltb-false, eqb-true, eqb-false}
use Rattle.model.specs.Words.{Shape, height, count, start, row, child}
use Rattle.model.specs.Tree.{Limit, Below, Level, pairs_from, level, next, all_pairs, Under, AllSound}
use Rattle.model.specs.Reading.{occ, in_pairs, nodes}
use Rattle.model.specs.Paths.{last_of, above}
use Rattle.model.specs.declared.path.Position.{Position}
use Rattle.model.specs.declared.path.Path.{Path}
use Rattle.model.proofs.Tests.{by_test}
use Rattle.model.proofs.Sound.{sound-below, begins, below_trans, chain}
use Rattle.model.proofs.Frame.{occ-append, occ_nil, occ_self}
use Rattle.model.proofs.Writes.{occ_cons, occ-here, not_first, not-rest}
use Rattle.model.proofs.Once.{Held, held-pairs, near-held, once-pairs, once, lower, occ-other}
use Rattle.law_formed.proofs.Rooted.{inside}
use Rattle.prune_boundary.specs.Behind.{Passed, limit_at, Done, Above, Behind}
use Rattle.prune_boundary.specs.Edge.{Meets, first_pairs, first_nodes, went_of, trims_up, trims_on, Climbed}
use Rattle.prune_boundary.specs.Trims.{Apart, Trims, Untouched}
use Rattle.prune_boundary.proofs.Behind.{tall, few}
use Rattle.prune_boundary.proofs.Boundary.{row_low, led}

-- the nodes of an edge
unfoldable pub firsts_of : List (ℕ × ℕ) → List ℕ
firsts_of [] = []
firsts_of (t ∷ ts) = t.0 ∷ firsts_of ts

pub none : (x : ℕ) → (0 < x → ⊥) → x ≡ 0
none zero f = refl
none (suc x) f = absurd (f (omega arith))

apart_of : (n : ℕ) (ts : List (ℕ × ℕ)) → occ n (firsts_of ts) ≡ 0 → Apart n ts
unfolding firsts_of Apart
apart_of n [] z = tt
apart_of n (t ∷ ts) z = (λ e. not_first n t.0 (firsts_of ts) z (sym e), apart_of n ts (not-rest n t.0 (firsts_of ts) z))

pub untouched_of : (l : List ℕ) (ts : List (ℕ × ℕ)) → ((m : ℕ) → occ m (firsts_of ts) + occ m l ≤ 1) → Untouched l ts
unfolding firsts_of Untouched
untouched_of l [] f = tt
untouched_of l (t ∷ ts) f = (omega (arith, f t.0, occ-here t.0 (firsts_of ts)), untouched_of l ts (λ m. omega (arith, f m, occ_cons m t.0 (firsts_of ts))))

module _ (C : Shape) (P : ℕ) (w : List ℕ) where
  module _ (m : ℕ) where
    -- node m lies below height g, in the pool, and in the rows from r to b
    abbrev Within : ℕ → ℕ → Limit → Type 0
    Within g r b = (height C w m < g) × (m < P) × (r ≤ start C w m) × Under (start C w m) b

    held-under : (g : ℕ) (x : Level g) (r : ℕ) (b : Limit) → Held C P w g x r b → Under r b
    unfolding Held
    held-under g x r b q = sound-below C P g x r b q.0

    in_child : (g : ℕ) (x : Level g) (r : ℕ) (b : Limit) → Held C P w g x r b → 0 < occ m (nodes g x) → Within g r b
    unfolding Held
    in_child g x r b q p =
        let low = subst (λ (y : Level g). AllSound C P g y r b → 0 < occ m (nodes g y) → height C w m < g) (sym q.1.1) (lower C P w m g q.1.0 r b) q.0 p in
        let near = near-held C P w m g x r b q p in
        (low, by_test (ltb m P) (ltb-true m P) (λ t. absurd (omega (arith, p, inside C P m (ltb-false m P t) g x r b q.0))), near.0, near.1)

    in_pairs_lem : (g : ℕ) (k : ℕ × Level g) (ks : List (ℕ × Level g)) (b : Limit) → all_pairs (Held C P w g) (k ∷ ks) b → 0 < occ m (in_pairs (nodes g) (k ∷ ks)) → Within g k.0 b
    unfolding all_pairs in_pairs next Under
    in_pairs_lem g k [] b a p = in_child g k.1 k.0 b a.0 (omega (arith, p, occ-append m (nodes g k.1) [], occ_nil m))
    in_pairs_lem g k (k₂ ∷ ks) b a p =
        by_test (ltb 0 (occ m (nodes g k.1)))
        (λ t. let q = in_child g k.1 k.0 (Below k₂.0) a.0 (ltb-true 0 (occ m (nodes g k.1)) t) in
        (q.0, q.1, q.2, below_trans (start C w m) k₂.0 b q.3 (chain (Held C P w g) (held-under g) k₂ ks b a.1)))
        (λ t. let q = in_pairs_lem g k₂ ks b a.1 (omega (arith, p, ltb-false 0 (occ m (nodes g k.1)) t, occ-append m (nodes g k.1) (in_pairs (nodes g) (k₂ ∷ ks)))) in
        let l : k.0 < k₂.0 = held-under g k.1 k.0 (Below k₂.0) a.0 in
        (q.0, q.1, omega (arith, l, q.2), q.3))

    -- the same of the first k entries of node n; m stands below them at most once
    in_first : (h n k : ℕ) (b : Limit) → all_pairs (AllSound C P h) (first_pairs C w h n k) b → 0 < occ m (first_nodes C w h n k) → Within h (row C w n 0) b
    unfolding pairs_from in_pairs
    in_first h n zero b a p = absurd (omega (arith, occ_nil m))
    in_first h n (suc k) b a p = in_pairs_lem h (row C w n 0, level C w h (child C w n 0)) (pairs_from C w (level C w h) n (0 + 1) k) b (held-pairs C P w h n 0 (suc k) b a) p

    first-once : (h n k : ℕ) (b : Limit) → all_pairs (AllSound C P h) (first_pairs C w h n k) b → occ m (first_nodes C w h n k) ≤ 1
    unfolding pairs_from in_pairs Held
    first-once h n zero b a = omega (arith, occ_nil m)
    first-once h n (suc k) b a =
        once-pairs C P w m h (near-held C P w m h)
        (λ x r₂ b₂ q. subst (λ (y : Level h). AllSound C P h y r₂ b₂ → occ m (nodes h y) ≤ 1) (sym q.1.1) (once C P w m h q.1.0 r₂ b₂) q.0)
        (row C w n 0) b (first_pairs C w h n (suc k)) (begins (level C w h (child C w n 0)) (pairs_from C w (level C w h) n (0 + 1) k)) (held-pairs C P w h n 0 (suc k) b a)

  -- The nodes T of an edge from node n of height h down, and those that go: each stands once. Where K holds, the last of T
  -- keeps an entry, and what goes starts before e
  pub record Standing (K : Type 0) (e h n : ℕ) (T : List (ℕ × ℕ)) : Type 0 where
    pub each : (m : ℕ) → occ m (firsts_of T) + occ m (went_of C w T) ≤ 1
    pub near : (m : ℕ) → 0 < occ m (firsts_of T) + occ m (went_of C w T) → (height C w m ≤ h) × (m < P) × (start C w n ≤ start C w m)
    pub head : 0 < occ n (firsts_of T)
    pub early : K → (m : ℕ) → 0 < occ m (went_of C w T) → start C w m < e
    pub trimmed : K → Trims C P w T

  -- node n, k of whose entries go, above the nodes T: these lie below it, after b
  module _ (h n k : ℕ) (up : List Position) (T : List (ℕ × ℕ)) (p : Passed C P w h n up) (b : Limit) (a : all_pairs (AllSound C P h) (first_pairs C w h n k) b)
      (each : (m : ℕ) → occ m (firsts_of T) + occ m (went_of C w T) ≤ 1)
      (below : (m : ℕ) → 0 < occ m (firsts_of T) + occ m (went_of C w T) → (height C w m < h) × (m < P) × (start C w n ≤ start C w m) × (Under (start C w m) b → ⊥)) where
    parts : (m : ℕ) → (occ m (firsts_of ((n, k) ∷ T)) ≡ occ m (n ∷ []) + occ m (firsts_of T)) × (occ m (went_of C w ((n, k) ∷ T)) ≡ occ m (first_nodes C w h n k) + occ m (went_of C w T))
    unfolding firsts_of went_of
    parts m = (occ_cons m n (firsts_of T), occ-append m (first_nodes C w (height C w n) n k) (went_of C w T) ∙ ap (λ (j : ℕ). occ m (first_nodes C w j n k) + occ m (went_of C w T)) (tall C P w h n up p))

    own : (m : ℕ) → 0 < occ m (first_nodes C w h n k) → (height C w m < h) × (m < P) × (start C w n ≤ start C w m) × Under (start C w m) b
    own m o = let q = in_first m h n k b a o in (q.0, q.1, omega (arith, q.2, row_low C P w h n up p 0 (omega arith)), q.3)

    by_place : {A : Type 0} (m : ℕ) → (m ≡ n → A) → (occ m (n ∷ []) ≡ 0 → 0 < occ m (first_nodes C w h n k) → A) → (occ m (n ∷ []) ≡ 0 → occ m (first_nodes C w h n k) ≡ 0 → A) → A
    by_place m f g r =
        by_test (eqb m n) (λ t. f (eqb-true m n t))
        (λ t. by_test (ltb 0 (occ m (first_nodes C w h n k)))
        (λ u. g (occ-other m n (eqb-false m n t)) (ltb-true 0 (occ m (first_nodes C w h n k)) u))
        (λ u. r (occ-other m n (eqb-false m n t)) (omega (arith, ltb-false 0 (occ m (first_nodes C w h n k)) u))))

    high : (m : ℕ) → m ≡ n → height C w m ≡ h
    high m x = ap (height C w) x ∙ tall C P w h n up p

    -- no node as high as n lies below it
    none-high : (m : ℕ) → m ≡ n → (occ m (first_nodes C w h n k) ≡ 0) × (occ m (firsts_of T) + occ m (went_of C w T) ≡ 0)
    none-high m x = (none _ (λ o. omega (arith, high m x, (own m o).0)), none _ (λ o. omega (arith, high m x, (below m o).0)))

    add : {K : Type 0} (e : ℕ) → (K → (s : ℕ) → Under s b → s < e) → (K → (m : ℕ) → 0 < occ m (went_of C w T) → start C w m < e) → (K → k < count C w n) → (K → Trims C P w T) → Standing K e h n ((n, k) ∷ T)
    unfolding Trims
    add e ends early keeps trimmed =
        record {
          each = λ m. (let o = parts m in
              by_place m (λ x. omega (arith, o.0, o.1, (none-high m x).0, (none-high m x).1, ap (λ (j : ℕ). occ j (n ∷ [])) x, occ_self n))
              (λ z y. omega (arith, o.0, o.1, first-once m h n k b a, none (occ m (firsts_of T) + occ m (went_of C w T)) (λ v. (below m v).3 (own m y).3)))
              (λ z y. omega (arith, o.0, o.1, each m)));
          near = λ m o. by_place m (λ x. (omega (arith, high m x), rw x p.inside, rw x (omega arith)))
              (λ z y. (let q = own m y in (omega (arith, q.0), q.1, q.2)))
              (λ z y. (let q = below m (omega (arith, o, (parts m).0, (parts m).1)) in (omega (arith, q.0), q.1, q.2)));
          head = omega (arith, (parts n).0, occ_self n);
          early = λ x m o. by_test (ltb 0 (occ m (first_nodes C w h n k)))
              (λ u. ends x (start C w m) (own m (ltb-true 0 (occ m (first_nodes C w h n k)) u)).3)
              (λ u. early x m (omega (arith, o, (parts m).1, ltb-false 0 (occ m (first_nodes C w h n k)) u)));
          trimmed = λ x. record { inside = p.inside; keeps = keeps x; narrow = few C P w h n up p; apart = apart_of n T (omega (arith, (none-high n refl).1)); after = trimmed x };
        }

  -- up to the root
  stands_up : {K : Type 0} (e root h n : ℕ) (up : List Position) (T : List (ℕ × ℕ)) → Above C P w root h n up → start C w n < e → Standing K e h n T → (x : ℕ) × Standing K e x root (trims_up up T)
  unfolding Above trims_up Under
  stands_up {K} e root h n [] T a l s = (h, subst (λ (m : ℕ). Standing K e h m T) a s)
  stands_up e root h n (q ∷ up) T a l s =
      let m = q.node.0 in
      let j = q.index - 1 in
      let d = led C P w root h n q up a in
      stands_up e root (suc h) m up ((m, j) ∷ T) a.above (omega (arith, d.2, a.begins))
      (add (suc h) m j up T a.passed (Below (row C w m j)) d.1 s.each
      (λ x o. let z = s.near x o in (omega (arith, z.0), z.1, omega (arith, z.2, d.2, a.begins), λ (v : start C w x < row C w m j). omega (arith, v, z.2, a.begins)))
      e (λ x y (v : y < row C w m j). omega (arith, v, a.begins)) s.early (λ x. d.0) s.trimmed)

-- the law
pub edge-stands : {C : Shape} {P : ℕ} {w : List ℕ} {e root : ℕ} {p : Path} → Climbed C P w e root p → (x : ℕ) × Standing C P w ((last_of p).index < count C w (last_of p).node.0) e x root (trims_on p)
unfolding Behind Done Meets Under Trims firsts_of went_of
edge-stands {C} {P} {w} {e} {root} {p} c =
    let n = (last_of p).node.0 in
    let k = (last_of p).index in
    let b = c.cutting.behind in
    stands_up C P w e root (height C w n) n (above p) ((n, k) ∷ []) b.above c.cutting.below
    (add C P w (height C w n) n k (above p) [] b.passed (limit_at C P w (height C w n) n k (above p)) b.done (λ m. omega (arith, occ_nil m)) (λ m o. absurd (omega (arith, o, occ_nil m)))
    e (λ x s u. let v : s < row C w n k = rw (lt-ltb k (count C w n) x) at u in let q : e ≡ row C w n k = rw (lt-ltb k (count C w n) x) at c.cutting.lands in omega arith)
    (λ x m o. absurd (omega (arith, o, occ_nil m))) (λ x. x) (λ x. tt))
