-- Hanging a path on the right edge of a tree: the tree stays well, its entries and nodes are those of both.
use Prim.Native.Nat.{ℕ, zero, suc, ◌+◌, ◌<◌, ◌≤◌}
use mathlib.Core.List.{List, [], ◌∷◌, ◌++◌, append-nil}
use mathlib.Core.Bool.{true, ◌&&◌}
use mathlib.Core.Path.{◌≡◌, refl, ap, ◌∙◌, subst}
use native.Mathlib.Omega.{arith}
use lib.ListN.{length, length-append}
use lib.Dec.{T, leb, ltb, eqb, lt→ltb, le→leb, eqb_refl}
use Rattle.model.specs.Words.{Shape, NONE, row_limit}
use Rattle.model.specs.Tree.{Limit, Open, Below, Level, next, last, over_pairs, all_pairs, meets, end_sound, Under}
use Rattle.model.specs.Reading.{Entry, entries, occ, in_pairs, nodes, end_fits}
use Rattle.model.specs.Append.{end_over}
use Rattle.model.proofs.Tests.{and_l, both}
use Rattle.model.proofs.Sound.{rises, rows, soundly, sound_of, sound-below}
use Rattle.model.proofs.Frame.{occ-append}
use Rattle.law_formed.specs.Well.{Well}
use Rattle.law_formed.proofs.Clean.{well-sound}
use Rattle.law_append.specs.Grown.{on_last, path_tree, end_at, up, hung}
use Rattle.law_append.proofs.Right.{Tip, Inside, Roomy}
use Rattle.law_append.proofs.Lists.{or_l, all_snoc, all-close, all-on-last, at_both, over_snoc, over-bound, over-on-last, occ-on-last, length-on-last, rows-on-last, rows_to, rows_snoc}
use Rattle.law_append.proofs.Last.{occ-last}

last_end : (e p old : ℕ) → last p (end_at p e old) Open ≡ last p e Open
unfolding last end_at
last_end e zero old = refl
last_end e (suc p) old = refl

module _ (C : Shape) (P : ℕ) where
  pub well-below : (h : ℕ) (t : Level h) (r : ℕ) (b : Limit) → Well C P h t r b → Under r b
  well-below h t r b g = sound-below C P h t r b (well-sound C P h t r b g)

  module _ (s : ℕ) where
    -- a tree of the right edge is off it where row s follows, and so are its pairs
    close : (h : ℕ) (t : Level (suc h)) (r : ℕ) → Well C P (suc h) t r Open → Tip h t s → Well C P (suc h) t r (Below s) × all_pairs (Well C P h) t.pairs (Below s)
    unfolding Well Tip last end_sound end_fits meets
    close zero t r g e =
        let o = soundly C 0 t r Open g.1 in
        let a = subst (λ (x : ℕ). all_pairs (Well C P 0) t.pairs (Below x)) e g.3 in (
          (
            g.0,
            sound_of C 0 t r (Below s) (record {
              high = o.high;
              many = o.many;
              begin = o.begin;
              rise = rows_to (Well C P 0) (well-below 0) (end_sound 0 Open t.end) (end_sound 0 (Below s) t.end) s
                  (λ l u z. both (ltb l t.end && leb t.end row_limit) (eqb t.end s) (and_l (ltb l t.end && leb t.end row_limit) true z) (subst (λ (x : ℕ). T (eqb t.end x)) e (eqb_refl t.end))) r t.pairs a o.rise;
            }),
            tt,
            g.3,
          ),
          a,
        )
    close (suc h) t r g e =
        let o = soundly C (suc h) t r Open g.1 in
        let a = all-close (Well C P (suc h)) (λ x. Tip h x s) Open (Below s) (λ x k u v. (close h x k u v).0) t.pairs g.3 e in (
          (
            g.0,
            sound_of C (suc h) t r (Below s) (record {
              high = o.high;
              many = o.many;
              begin = o.begin;
              rise = rows_to (Well C P (suc h)) (well-below (suc h)) (end_sound (suc h) Open t.end) (end_sound (suc h) (Below s) t.end) s (λ l u z. z) r t.pairs a o.rise;
            }),
            or_l (eqb t.end NONE) (eqb t.end s) g.2,
            a,
          ),
          a,
        )

    pub sealed : (h : ℕ) (t : Level (suc h)) (r : ℕ) → Well C P (suc h) t r Open → Tip h t s → all_pairs (Well C P h) t.pairs (Below s)
    sealed h t r g e = (close h t r g e).1

  -- one more pair
  module _ (s e : ℕ) (some : s < e) (most : e ≤ row_limit) where
    leaf-end : T (end_sound 0 Open e s)
    unfolding end_sound meets
    leaf-end = both (ltb s e && leb e row_limit) true (both (ltb s e) (leb e row_limit) (lt→ltb s e some) (le→leb e row_limit most)) tt

    end_fits_lem : (p old : ℕ) → T (end_fits p Open old) → T (end_fits p Open (end_at p e old)) × T (end_sound p Open (end_at p e old) s)
    unfolding end_fits end_at end_sound
    end_fits_lem zero old f = (tt, leaf-end)
    end_fits_lem (suc p) old f = (f, or_l (eqb old NONE) (ltb s old) f)

    -- the law
    pub hung-well : (d p : ℕ) (t : Level (suc (up p d))) (r : ℕ) (y : Level p) → Well C P (suc (up p d)) t r Open → Tip (up p d) t s → Roomy C d p t → Well C P p y s (last p e Open)
        → Well C P (suc (up p d)) (hung d p t s e y) r Open
    unfolding Well hung Roomy Tip last
    hung-well zero p t r y g tip room q =
        let o = soundly C p t r Open g.1 in
        let a = sealed s p t r g tip in
        let f = end_fits_lem p t.end g.2 in (
          g.0,
          sound_of C p (hung 0 p t s e y) r Open (record {
            high = o.high;
            many = omega (arith, length-append t.pairs ((s, y) ∷ []));
            begin = o.begin;
            rise = rows_snoc (Well C P p) (well-below p) (end_sound p Open t.end) (end_sound p Open (end_at p e t.end)) s y f.1 r t.pairs a o.rise;
          }),
          f.0,
          all_snoc (Well C P p) s y (last p (end_at p e t.end) Open) (rw (last_end e p t.end) q) t.pairs a,
        )
    hung-well (suc d) p t r y g tip room q =
        let o = soundly C (suc (up p d)) t r Open g.1 in
        let F : Level (suc (up p d)) → Level (suc (up p d)) = λ x. hung d p x s e y in (
          g.0,
          sound_of C (suc (up p d)) (hung (suc d) p t s e y) r Open (record {
            high = o.high;
            many = rw (length-on-last F t.pairs) o.many;
            begin = o.begin;
            rise = rw (rows-on-last (end_sound (suc (up p d)) Open t.end) F r t.pairs) o.rise;
          }),
          g.2,
          all-on-last (Well C P (suc (up p d))) (λ x. Tip (up p d) x s × Roomy C d p x) F Open (λ x k u v. hung-well d p x k y u v.0 v.1 q) t.pairs g.3 (at_both (λ x. Tip (up p d) x s) (λ x. Roomy C d p x) t.pairs tip room),
        )

    -- a path of one-entry nodes
    path-tree-end : (ns : List ℕ) → T (end_fits (length ns) Open (end_over e ns)) × T (end_sound (length ns) Open (end_over e ns) s) × (last (length ns) (end_over e ns) Open ≡ last (length ns) e Open)
    unfolding end_fits end_over end_sound last
    path-tree-end [] = (tt, leaf-end, refl)
    path-tree-end (n ∷ ns) = (tt, tt, refl)

    pub path-tree-well : (x : ℕ) (ns : List ℕ) → 1 ≤ C.cap → Inside P ns → Well C P (length ns) (path_tree s e x ns) s (last (length ns) e Open)
    unfolding Well path_tree last Under Inside all_pairs rows rises next
    path-tree-well x [] c i = some
    path-tree-well x (n ∷ ns) c i =
        let f = path-tree-end ns in (
          lt→ltb n P i.0,
          sound_of C (length ns) (path_tree s e x (n ∷ ns)) s Open (record { high = refl; many = c; begin = refl; rise = both (eqb s s) (end_sound (length ns) Open (end_over e ns) s) (eqb_refl s) f.1 }),
          f.0,
          (rw f.2 (path-tree-well x ns c i.1), tt),
        )

-- entries and nodes of a path
module _ (s e x : ℕ) where
  pub path-tree-entries : (ns : List ℕ) → entries (length ns) (path_tree s e x ns) s (last (length ns) e Open) ≡ (record { low = s; high = Below e; page = x }) ∷ []
  unfolding entries path_tree last over_pairs next end_over
  path-tree-entries [] = refl
  path-tree-entries (n ∷ []) = refl
  path-tree-entries (n ∷ m ∷ ns) = append-nil _ ∙ path-tree-entries (m ∷ ns)

  pub path-tree-nodes : (m : ℕ) (ns : List ℕ) → occ m (nodes (length ns) (path_tree s e x ns)) ≡ occ m ns
  unfolding nodes path_tree in_pairs
  path-tree-nodes m [] = refl
  path-tree-nodes m (n ∷ ns) = rw append-nil (omega (arith, occ-append m (nodes (length ns) (path_tree s e x ns)) (n ∷ []), occ-append m (n ∷ []) ns, path-tree-nodes m ns))

-- entries do not depend on what is next for a tree: a leaf has its own end
pub entries_any : (h : ℕ) (t : Level (suc h)) (r q : ℕ) (b c : Limit) → entries (suc h) t r b ≡ entries (suc h) t q c
unfolding entries last
entries_any zero t r q b c = refl
entries_any (suc h) t r q b c = over-bound (entries (suc h)) b c (λ x k. entries_any h x k k b c) t.pairs

-- the entries of a node of the right edge, where row s follows
pub tip-entries : (h : ℕ) (t : Level (suc h)) (s r : ℕ) → Tip h t s → over_pairs (entries h) t.pairs (Below s) ≡ entries (suc h) t r Open
unfolding entries last Tip
tip-entries zero t s r e = rw e
tip-entries (suc h) t s r e = over-bound (entries (suc h)) (Below s) Open (λ x k. entries_any h x k k (Below s) Open) t.pairs

pub hung-entries : (d p : ℕ) (t : Level (suc (up p d))) (r s e : ℕ) (y : Level p) → Tip (up p d) t s
    → entries (suc (up p d)) (hung d p t s e y) r Open ≡ entries (suc (up p d)) t r Open ++ entries p y s (last p e Open)
unfolding hung Tip entries last
hung-entries zero p t r s e y tip =
    over_snoc (entries p) s y (last p (end_at p e t.end) Open) t.pairs
    ∙ ap (λ (l : List Entry). l ++ entries p y s (last p (end_at p e t.end) Open)) (tip-entries p t s r tip)
    ∙ ap (λ (b : Limit). entries (suc p) t r Open ++ entries p y s b) (last_end e p t.end)
hung-entries (suc d) p t r s e y tip =
    over-on-last (entries (suc (up p d))) (λ x. Tip (up p d) x s) (λ x. hung d p x s e y) Open (entries p y s (last p e Open)) (λ x k u. hung-entries d p x k s e y u) t.pairs tip

pub hung-nodes : (m d p : ℕ) (t : Level (suc (up p d))) (s e : ℕ) (y : Level p) → Tip (up p d) t s
    → occ m (nodes (suc (up p d)) (hung d p t s e y)) ≡ occ m (nodes (suc (up p d)) t) + occ m (nodes p y)
unfolding hung nodes Tip
hung-nodes m zero p t s e y tip =
    omega (arith, occ-append m (in_pairs (nodes p) (t.pairs ++ ((s, y) ∷ []))) (t.number ∷ []), occ-append m (in_pairs (nodes p) t.pairs) (t.number ∷ []), occ-last (nodes p) m t.pairs (s, y))
hung-nodes m (suc d) p t s e y tip =
    let F : Level (suc (up p d)) → Level (suc (up p d)) = λ x. hung d p x s e y in
    omega (
      arith,
      occ-append m (in_pairs (nodes (suc (up p d))) (on_last F t.pairs)) (t.number ∷ []),
      occ-append m (in_pairs (nodes (suc (up p d))) t.pairs) (t.number ∷ []),
      occ-on-last (nodes (suc (up p d))) (λ x. Tip (up p d) x s) F m (occ m (nodes p y)) (λ x u. hung-nodes m d p x s e y u) t.pairs tip,
    )
