-- The leaf that a row reaches, by the ledger: it holds some of the ranges in turn.
use Prim.Native.Nat.{ℕ, zero, suc, ◌+◌, ◌<◌, ◌≤◌}
use mathlib.Core.List.{List, [], ◌∷◌, ◌++◌, map, tail, append-nil, append_assoc}
use mathlib.Core.Path.{◌≡◌, refl, sym, ap, ◌∙◌, subst}
use mathlib.Core.Logic.{◌⊎◌, inl, inr, ⊎_elim}
use native.Mathlib.Omega.{arith}
use lib.ListN.{length, length-append}
use lib.Dec.{eqb, ltb}
use borrow.Author.Tests.{eq-eqb, ne_eqb, ltb-true, ltb-false}
use Rattle.model.specs.Words.{store_shape, lent, Shape, capacity, pool, root, height, count, start, end, row, child}
use Rattle.model.specs.Tree.{Limit, Open, Below, pairs_from, level, last, over_pairs, next, AllSound}
use Rattle.model.specs.Reading.{Entry, entries, leaf, root_leaf, to_row}
use Rattle.model.specs.WellFormed.{WellFormed, EmptyRoot, SoundRoot, empty_tree, sound_tree}
use Rattle.model.specs.Ledger.{Range, Ledger, end_from, walk_from}
use Rattle.model.specs.LeafWalk.{is_last}
use Rattle.model.proofs.Tests.{by_test}
use Rattle.model.proofs.Frame.{length_pairs}
use Rattle.model.proofs.Sound.{Begins, begins, sound-begins}
use Rattle.model.proofs.Lookup.{is_empty}
use Rattle.tree_path.proofs.Down.{root_empty}
use Rattle.law_formed.specs.Holds.{entries_from, Holds}
use Rattle.law_formed.proofs.Linked.{Meets}
use Rattle.law_formed.proofs.Entries.{from-length}
use Rattle.law_formed.proofs.Rooted.{empty_entries}
use Rattle.law_append.specs.Needed.{entries_end}
use Rattle.law_ledger.proofs.Calls.{ends}
use Rattle.law_walk.specs.Walking.{LeafAt, leaves_of, store_leaves}
use Rattle.law_walk.proofs.Lined.{Good, Lined, chosen_in, lined-good, lined-rest, low_of, split}
use Rattle.law_walk.proofs.Chosen.{leaf_of, store_lined, store_reach}
use Rattle.law_walk.proofs.Walk.{low_page, leaf-joined, from-walk}
use Rattle.law_history.specs.Laws.{leaf_end}

-- The entries of a tree, leaf by leaf -----------------------------------------------------------------------

module _ (C : Shape) (w : List ℕ) where
  abbrev leaf_entries : LeafAt → List Entry
  leaf_entries x = over_pairs (entries 0) x.pairs (Below (end C w x.number))

  unfoldable by_leaves : List LeafAt → List Entry
  by_leaves [] = []
  by_leaves (x ∷ xs) = leaf_entries x ++ by_leaves xs

  leaves-append : (xs ys : List LeafAt) → by_leaves (xs ++ ys) ≡ by_leaves xs ++ by_leaves ys
  unfolding by_leaves
  leaves-append [] ys = refl
  leaves-append (x ∷ xs) ys = ap (λ (t : List Entry). leaf_entries x ++ t) (leaves-append xs ys) ∙ sym (append_assoc (leaf_entries x) (by_leaves xs) (by_leaves ys))

  over-leaves : (h : ℕ) → ((n r : ℕ) (b : Limit) → entries (suc h) (level C w (suc h) n) r b ≡ by_leaves (leaves_of h (level C w (suc h) n) r b)) → (n i k : ℕ) (b : Limit)
      → over_pairs (entries (suc h)) (pairs_from C w (level C w (suc h)) n i k) b ≡ by_leaves (over_pairs (leaves_of h) (pairs_from C w (level C w (suc h)) n i k) b)
  unfolding over_pairs pairs_from by_leaves
  over-leaves h f n i zero b = refl
  over-leaves h f n i (suc k) b =
      let ps = pairs_from C w (level C w (suc h)) n (i + 1) k in
      let m = child C w n i in
      let r = row C w n i in
      ap (λ (t : List Entry). t ++ over_pairs (entries (suc h)) ps b) (f m r (next ps b))
      ∙ ap (λ (t : List Entry). by_leaves (leaves_of h (level C w (suc h) m) r (next ps b)) ++ t) (over-leaves h f n (i + 1) k b)
      ∙ sym (leaves-append (leaves_of h (level C w (suc h) m) r (next ps b)) (over_pairs (leaves_of h) ps b))

  tree-leaves : (h n r : ℕ) (b : Limit) → entries (suc h) (level C w (suc h) n) r b ≡ by_leaves (leaves_of h (level C w (suc h) n) r b)
  unfolding entries leaves_of by_leaves last level
  tree-leaves zero n r b = sym (append-nil (over_pairs (entries 0) (pairs_from C w (level C w 0) n 0 (count C w n)) (Below (end C w n))))
  tree-leaves (suc h) n r b = over-leaves h (tree-leaves h) n 0 (count C w n) b

-- Entries of a ledger in parts ------------------------------------------------------------------------------

record Parted (s : ℕ) (gs : List Range) (a b : List Entry) : Type 0 where
  before : List Range
  after : List Range
  is : gs ≡ before ++ after
  front : entries_from s before ≡ a
  rest : entries_from (end_from s before) after ≡ b

head_or : Entry → List Entry → Entry
head_or d [] = d
head_or d (e ∷ es) = e

parted : (a : List Entry) (s : ℕ) (gs : List Range) (b : List Entry) → entries_from s gs ≡ a ++ b → Parted s gs a b
unfolding entries_from end_from head_or
parted [] s gs b e = record { before = []; after = gs; is = refl; front = refl; rest = e }
parted (x ∷ a) s [] b e = absurd (omega (arith, ap length e))
parted (x ∷ a) s (g ∷ gs) b e =
    let u = parted a g.end gs b (ap tail e) in
    let f : record { low = s; high = Below g.end; page = g.page } ≡ x = ap (head_or x) e in
    record {
      before = g ∷ u.before;
      after = u.after;
      is = ap (λ (t : List Range). g ∷ t) u.is;
      front = ap (λ (y : Entry). y ∷ entries_from g.end u.before) f ∙ ap (λ (t : List Entry). x ∷ t) u.front;
      rest = u.rest;
    }

first_pair : ℕ × ℕ → List (ℕ × ℕ) → ℕ × ℕ
first_pair d [] = d
first_pair d (p ∷ ps) = p

some_end : (s : ℕ) (gs : List Range) → 0 < length gs → leaf_end s gs ≡ end_from s gs
unfolding leaf_end
some_end s [] z = absurd (omega arith)
some_end s (g ∷ gs) z = refl

over-length : (ps : List (ℕ × ℕ)) (b : Limit) → length (over_pairs (entries 0) ps b) ≡ length ps
unfolding over_pairs entries
over-length [] b = refl
over-length (p ∷ ps) b = ap suc (over-length ps b)

-- the first row, and the last end
first-low : (s : ℕ) (gs : List Range) (d : ℕ × ℕ) → 0 < length gs → (first_pair d (walk_from s gs)).0 ≡ s
unfolding walk_from first_pair
first-low s [] d z = absurd (omega arith)
first-low s (g ∷ gs) d z = refl

leaf-end : (r : ℕ) (p : ℕ × ℕ) (ps : List (ℕ × ℕ)) (e : ℕ) → entries_end r (over_pairs (entries 0) (p ∷ ps) (Below e)) ≡ e
unfolding entries_end over_pairs entries next
leaf-end r p [] e = refl
leaf-end r p (q ∷ qs) e = leaf-end q.0 q qs e

-- the ranges of a leaf with the pairs ps that ends at e
module _ (s : ℕ) (gs : List Range) (e : ℕ) where
  as_walk : (ps : List (ℕ × ℕ)) → entries_from s gs ≡ over_pairs (entries 0) ps (Below e) → walk_from s gs ≡ ps
  as_walk ps is = sym (from-walk s gs) ∙ ap (map low_page) is ∙ leaf-joined ps (Below e)

  as_many : (ps : List (ℕ × ℕ)) → entries_from s gs ≡ over_pairs (entries 0) ps (Below e) → length gs ≡ length ps
  as_many ps is = sym (from-length s gs) ∙ ap length is ∙ over-length ps (Below e)

  as_low : (r : ℕ) (ps : List (ℕ × ℕ)) → Begins r ps → entries_from s gs ≡ over_pairs (entries 0) ps (Below e) → s ≡ r
  unfolding first_pair
  as_low r _ (begins x ps) is =
      let ps₁ : List (ℕ × ℕ) = (r, x) ∷ ps in
      sym (first-low s gs (r, x) (omega (arith, as_many ps₁ is))) ∙ ap (λ (t : List (ℕ × ℕ)). (first_pair (r, x) t).0) (as_walk ps₁ is)

  as_end : (r : ℕ) (ps : List (ℕ × ℕ)) → Begins r ps → entries_from s gs ≡ over_pairs (entries 0) ps (Below e) → leaf_end s gs ≡ e
  as_end r _ (begins x ps) is =
      let ps₁ : List (ℕ × ℕ) = (r, x) ∷ ps in
      some_end s gs (omega (arith, as_many ps₁ is)) ∙ sym (ends s gs) ∙ ap (entries_end s) is ∙ leaf-end s (r, x) ps e

begun : {K : Type 0} (r : ℕ) (ps : List (ℕ × K)) → Begins r ps → 0 < length ps
begun r _ (begins x ps) = omega arith

-- The leaf reached ------------------------------------------------------------------------------------------

-- the ledger's ranges in leaf n, which row q reaches, with the bound b that is next for it
pub record Spot (w : List ℕ) (l : Ledger) (q : ℕ) : Type 0 where
  pub before : List Range
  pub those : List Range
  pub rest : List Range
  pub is : l.ranges ≡ before ++ (those ++ rest)
  pub n : ℕ
  pub b : Limit
  pub reached : root_leaf (to_row (store_shape lent w) w q) (store_shape lent w) (pool w) w (root w) ≡ leaf n b
  pub begins-at : start (store_shape lent w) w n ≡ end_from l.start before
  pub ends_at : end (store_shape lent w) w n ≡ leaf_end (end_from l.start before) those
  pub pairs : pairs_from (store_shape lent w) w (λ (x : ℕ). x) n 0 (count (store_shape lent w) w n) ≡ walk_from (end_from l.start before) those
  pub many : count (store_shape lent w) w n ≡ length those
  pub few : count (store_shape lent w) w n ≤ capacity w
  pub over : is_last b ≡ eqb (length rest) 0
  pub low : (before ≡ []) ⊎ (end_from l.start before ≤ q)
  pub high : (rest ≡ []) ⊎ (q < leaf_end (end_from l.start before) those)
  pub some : those ≡ [] → l.ranges ≡ []

no_ranges : (s : ℕ) (gs : List Range) → length (entries_from s gs) ≡ 0 → gs ≡ []
unfolding entries_from
no_ranges s [] e = refl
no_ranges s (g ∷ gs) e = absurd (omega (arith, e))

module _ (w : List ℕ) (l : Ledger) (H : Holds lent w l) (q : ℕ) where
  abbrev C : Shape
  C = store_shape lent w

  -- an empty root
  empty_spot : EmptyRoot C w (root w) → Spot w l q
  unfolding end_from leaf_end walk_from pairs_from is_last
  empty_spot e =
      let none : l.ranges ≡ [] = no_ranges l.start l.ranges (ap length (sym H.entries) ∙ ap length (empty_entries C w (height C w (root w)) (root w) e (start C w (root w)) Open)) in
      record {
        before = [];
        those = [];
        rest = [];
        is = none;
        n = root w;
        b = Open;
        reached = root_empty (to_row C w q) C (pool w) w (root w) (is_empty C w (root w) e);
        begins-at = H.begin;
        ends_at = e.ends;
        pairs = ap (pairs_from C w (λ (x : ℕ). x) (root w) 0) e.none;
        many = e.none;
        few = omega (arith, e.none);
        over = refl;
        low = inl refl;
        high = inl refl;
        some = λ z. none;
      }

  -- a leaf among others: those before it, and those after it
  module _ (z : 0 < count C w (root w)) (x : LeafAt) (pre post : List LeafAt) (is : store_leaves w ≡ pre ++ (x ∷ post)) where
    lined : Lined C w (x ∷ post) Open
    lined = lined-rest C w pre x post Open (subst (λ (ls : List LeafAt). Lined C w ls Open) is (store_lined w H.formed).0)

    good : Good C w x
    good = lined-good C w x post Open lined

    whole : entries_from l.start l.ranges ≡ by_leaves C w pre ++ (leaf_entries C w x ++ by_leaves C w post)
    unfolding by_leaves
    whole =
        sym H.entries ∙ tree-leaves C w (height C w (root w)) (root w) (start C w (root w)) Open
        ∙ ap (by_leaves C w) is ∙ leaves-append C w pre (x ∷ post)

    left : Parted l.start l.ranges (by_leaves C w pre) (leaf_entries C w x ++ by_leaves C w post)
    left = parted (by_leaves C w pre) l.start l.ranges (leaf_entries C w x ++ by_leaves C w post) whole

    abbrev s : ℕ
    s = end_from l.start left.before

    right : Parted s left.after (leaf_entries C w x) (by_leaves C w post)
    right = parted (leaf_entries C w x) s left.after (by_leaves C w post) left.rest

    abbrev those : List Range
    those = right.before

    abbrev e : ℕ
    e = end C w x.number

    at_low : s ≡ x.low
    at_low = as_low s those e x.low x.pairs (good.first z) right.front

    at-end : leaf_end s those ≡ e
    at-end = as_end s those e x.low x.pairs (good.first z) right.front

    held : walk_from s those ≡ pairs_from C w (λ (y : ℕ). y) x.number 0 (count C w x.number)
    held = as_walk s those e x.pairs right.front ∙ good.held

    many : length those ≡ count C w x.number
    many = as_many s those e x.pairs right.front ∙ ap length good.held ∙ length_pairs C w (λ (y : ℕ). y) x.number 0 (count C w x.number)

    some : 0 < length those
    some = omega (arith, as_many s those e x.pairs right.front, begun x.low x.pairs (good.first z))

    first_leaf : pre ≡ [] → left.before ≡ []
    unfolding by_leaves
    first_leaf p = no_ranges l.start left.before (ap length (left.front ∙ ap (by_leaves C w) p))

    no_more : post ≡ [] → right.after ≡ []
    unfolding by_leaves
    no_more p = no_ranges (end_from s those) right.after (ap length (right.rest ∙ ap (by_leaves C w) p))

    over : (ps : List LeafAt) → post ≡ ps → is_last x.next ≡ eqb (length right.after) 0
    unfolding is_last Lined by_leaves
    over [] p =
        let L = subst (λ (ps : List LeafAt). Lined C w (x ∷ ps) Open) p lined in
        ap is_last L.1.0 ∙ sym (eq-eqb (length right.after) 0 (ap length (no_more p)))
    over (y ∷ ys) p =
        let L = subst (λ (ps : List LeafAt). Lined C w (x ∷ ps) Open) p lined in
        let k = begun y.low y.pairs ((lined-good C w y ys Open L.1.1.1).first z) in
        let n : length right.after ≡ length (leaf_entries C w y) + length (by_leaves C w ys) =
        sym (from-length (end_from s those) right.after) ∙ ap length (right.rest ∙ ap (by_leaves C w) p) ∙ length-append (leaf_entries C w y) (by_leaves C w ys) in
        ap is_last L.1.0 ∙ sym (ne_eqb (length right.after) 0 (λ o. omega (arith, o, k, n, over-length y.pairs (Below (end C w y.number)))))

    above : (ps : List LeafAt) → post ≡ ps → q < low_of ps → q < leaf_end s those
    unfolding Lined low_of Meets
    above [] p h = absurd (omega arith)
    above (y ∷ ys) p h =
        let L = subst (λ (ps : List LeafAt). Lined C w (x ∷ ps) Open) p lined in
        let m : e ≡ y.low = subst (λ (b : Limit). Meets b e) L.1.0 L.0.meets in
        omega (arith, m, at-end)

    filled-spot : root_leaf (to_row C w q) C (pool w) w (root w) ≡ leaf_of x → (pre ≡ []) ⊎ (x.low ≤ q) → (post ≡ []) ⊎ (q < low_of post) → Spot w l q
    filled-spot r lo hi =
        record {
          before = left.before;
          those = those;
          rest = right.after;
          is = left.is ∙ ap (λ (t : List Range). left.before ++ t) right.is;
          n = x.number;
          b = x.next;
          reached = r;
          begins-at = good.begin ∙ sym at_low;
          ends_at = sym at-end;
          pairs = sym held;
          many = sym many;
          few = good.many;
          over = over post refl;
          low = ⊎_elim (λ p. inl (first_leaf p)) (λ h. inr (omega (arith, at_low))) lo;
          high = ⊎_elim (λ p. inl (no_more p)) (λ h. inr (above post refl h)) hi;
          some = λ t. absurd (omega (arith, some, ap length t));
        }

  -- any
  pub spot : Spot w l q
  unfolding WellFormed AllSound level
  spot =
      by_test (ltb 0 (count C w (root w)))
      (λ t. let S = split C w q (store_leaves w) Open (store_lined w H.formed).0 in
      filled-spot (ltb-true 0 (count C w (root w)) t) (chosen_in q (store_leaves w)) S.pre S.post S.is (store_reach w H.formed q) S.low S.high)
      (λ t. go (ltb-false 0 (count C w (root w)) t) H.formed.sound)
    where
      go : count C w (root w) ≤ 0 → SoundRoot C (pool w) w (height C w (root w)) (root w) → Spot w l q
      go u (empty_tree e) = empty_spot e
      go u (sound_tree k g) =
          let h = height C w (root w) in
          let b = begun (start C w (root w)) (level C w (suc h) (root w)).pairs (sound-begins C h (level C w (suc h) (root w)) (start C w (root w)) Open g.1) in
          absurd (omega (arith, b, length_pairs C w (level C w h) (root w) 0 (count C w (root w))))
