-- From the leaf of the last entry named up to the first node that keeps an entry, or the root.
use Prim.Native.Nat.{ℕ, suc, ◌+◌, ◌-◌, ◌<◌, ◌≤◌}
use mathlib.Core.List.{List, [], ◌∷◌, ◌++◌, append-nil}
use mathlib.Core.Bool.{false}
use mathlib.Core.Path.{◌≡◌, refl, sym, ap, ◌∙◌}
use mathlib.Core.Logic.{inr}
use native.Mathlib.Omega.{arith}
use lib.ListN.{set, length, length-set, length-append, take}
use lib.Seq.{get_or-set_same}
use borrow.Author.Tests.{lt-ltb}
use Rattle.model.specs.Words.{Shape, height, count, row}
use Rattle.model.specs.Reading.{Visit, Leave, occ, root_nodes}
use Rattle.model.specs.Cut.{cut_pairs, cut, went_pairs, went}
use Rattle.model.specs.Paths.{no_position, trail, last_of, above, popped}
use Rattle.model.specs.declared.path.Position.{Position}
use Rattle.model.specs.declared.path.Path.{Path}
use Rattle.model.proofs.Paths.{stack_pop, stack_set, stack-none, stack-turn}
use Rattle.model.proofs.Writes.{occ_cons}
use Rattle.law_formed.specs.Visits.{lefts, enters}
use Rattle.law_formed.proofs.Tally.{left-append}
use Rattle.law_formed.proofs.Counting.{most}
use Rattle.tree_turn.specs.Left.{left, Valid, ValidPath, Moves, on_path}
use Rattle.tree_turn.specs.Trace.{Walked}
use Rattle.tree_turn.proofs.Valid.{valid-top, valid-path}
use Rattle.tree_turn.proofs.Moves.{leaf_move, end_move}
use Rattle.tree_turn.proofs.Trace.{walked-out}
use Rattle.prune_boundary.specs.Behind.{Above, Behind}
use Rattle.prune_boundary.specs.Edge.{Meets, position_of, first_pairs, first_nodes, went_of, Stays, trims_up, trims_on, Cutting, Ended, Climbed}
use Rattle.prune_boundary.proofs.Behind.{tall, at_last_lem}
use Rattle.prune_boundary.proofs.Goes.{all-went}
use Rattle.prune_boundary.proofs.Boundary.{stays_here, stays-root, cutting-up, cutting-leaf}
use Rattle.prune_boundary.proofs.Went.{went-leaf, went-popped, went-first}
use Rattle.prune_boundary.proofs.Joined.{stack-length, top-height}
use Rattle.prune_boundary.proofs.Distinct.{none, firsts_of, edge-stands}

-- the path with the entries named in its leaf
abbrev pub marked : Path → ℕ → Path
marked p u = record { positions = set p.positions (p.depth - 1) (record { node = (last_of p).node; index = u }); depth = p.depth }

-- the nodes of an edge are those of its path
path-firsts : (m : ℕ) (up : List Position) (T : List (ℕ × ℕ)) → occ m (firsts_of (trims_up up T)) ≡ occ m (on_path up) + occ m (firsts_of T)
unfolding trims_up on_path firsts_of occ
path-firsts m [] T = omega arith
path-firsts m (q ∷ up) T = omega (arith, path-firsts m up ((q.node.0, q.index - 1) ∷ T), occ_cons m q.node.0 (firsts_of T), occ_cons m q.node.0 (on_path up))

module _ {C : Shape} {P : ℕ} {w : List ℕ} {e root : ℕ} where
  fits : (h : ℕ) (q : Position) (up : List Position) → Cutting C w P e root h q.node.0 q.index up → Cutting C w P e root (height C w q.node.0) q.node.0 q.index up
  unfolding Behind
  fits h q up c = rw (tall C P w h q.node.0 up c.behind.passed) c

  module _ {p : Path} {u k : ℕ} (d : Ended C P w e root p u k) where
    abbrev n : ℕ
    n = (last_of p).node.0

    pub ended-low : p.depth ≤ 32
    ended-low = omega (arith, (valid-top C P w p d.deep d.valid).deep)

    last-is : last_of (marked p u) ≡ record { node = (last_of p).node; index = u }
    last-is = get_or-set_same p.positions (p.depth - 1) (record { node = (last_of p).node; index = u }) no_position (omega (arith, d.long, d.deep, ended-low))

    above-is : above (marked p u) ≡ above p
    above-is = stack_set p.positions (p.depth - 1) (record { node = (last_of p).node; index = u }) (p.depth - 1) (omega arith)

    trail_is : trail (marked p u) ≡ position_of n u ∷ above p
    trail_is = stack-turn p.positions p.depth (position_of n u) d.deep (omega (arith, d.long, ended-low))

    valid-is : Valid C P w (height C w n) (position_of n u ∷ above p)
    unfolding Valid
    valid-is = let t = valid-top C P w p d.deep d.valid in record { inside = t.inside; high = refl; within = d.last.within; narrow = t.narrow; above = t.over }

    valid-marked : ValidPath C P w (marked p u)
    valid-marked = valid-path C P w (marked p u) (height C w n) (position_of n u ∷ above p) trail_is valid-is

    -- the index of a leaf changes nothing of what is left
    same_left : left false C P w p ≡ left false C P w (marked p u)
    same_left =
        let z : height C w (last_of (marked p u)).node.0 ≡ 0 = ap (λ (q : Position). height C w q.node.0) last-is ∙ d.last.leaf in
        (leaf_move false C P w p d.valid d.deep (popped p) d.last.leaf refl).one
        ∙ ap (λ (q : Position). Leave q.node.0 ∷ left false C P w (popped p)) (sym last-is)
        ∙ sym (leaf_move false C P w (marked p u) valid-marked d.deep (popped p) z (sym above-is)).one

    walked-is : Walked C P w root d.seen (marked p u)
    unfolding on_path
    walked-is =
        record {
          one = d.walked.one ∙ ap (λ (vs : List Visit). d.seen ++ vs) same_left;
          all-clean = d.walked.all-clean;
          held = λ m. rw trail_is (rw (stack_pop p.positions p.depth d.deep) at (d.walked.held m));
        }

    -- the same nodes go
    pub went-marked : lefts d.seen ≡ went_of C w (trims_on (marked p u))
    went-marked = rw (above-is, last-is) (d.went ∙ went-leaf C P w (above p) n (last_of p).index u d.last.leaf)

    -- the path goes down to a leaf
    pub ended-high : height C w root + 1 ≡ p.depth
    unfolding Behind
    ended-high =
        let b = at_last_lem C P w root p d.deep d.behind in
        omega (arith, top-height C P w root (height C w n) n (above p) b.passed b.above, stack-length p.positions (p.depth - 1), d.last.leaf, d.deep)

    pub start-climb : Climbed C P w e root (marked p u)
    start-climb =
        let b : Behind C P w root 0 (position_of n (last_of p).index ∷ above p) = rw d.last.leaf at (at_last_lem C P w root p d.deep d.behind) in
        let c : Cutting C w P e root (height C w n) n u (above p) = fits 0 (record { node = (last_of p).node; index = u }) (above p) (cutting-leaf C P w e root n u (last_of p).index (above p) b d.last) in
        record {
          deep = d.deep;
          long = length-set p.positions (p.depth - 1) (record { node = (last_of p).node; index = u }) ∙ d.long;
          valid = valid-marked;
          cutting = rw (last-is, above-is) c;
          seen = d.seen;
          walked = walked-is;
          went = went-marked;
        }

  module _ {p : Path} (c : Climbed C P w e root p) where
    -- a node all of whose entries go
    module _ (l : 1 < p.depth) (m : count C w (last_of p).node.0 ≤ (last_of p).index) where
      over : above p ≡ last_of (popped p) ∷ above (popped p)
      over = stack_pop p.positions (p.depth - 1) (omega arith)

      leaves : Moves false C P w p (Leave (last_of p).node.0) (popped p)
      leaves = end_move false C P w p c.valid c.deep (popped p) m refl

      more-went : went_of C w (trims_on (popped p)) ≡ went_of C w (trims_on p) ++ ((last_of p).node.0 ∷ [])
      more-went = went-popped C P w p c.deep root c.cutting.behind l (inr m)

      pub climb : Climbed C P w e root (popped p)
      unfolding lefts
      climb =
          let q = last_of (popped p) in
          let d = cutting-up C P w e root (height C w (last_of p).node.0) (last_of p).node.0 (last_of p).index q (above (popped p)) (rw over at c.cutting) m in
          record {
            deep = omega arith;
            long = c.long;
            valid = leaves.valid;
            cutting = fits (suc (height C w (last_of p).node.0)) q (above (popped p)) d;
            seen = c.seen ++ (Leave (last_of p).node.0 ∷ []);
            walked = walked-out c.walked c.deep leaves;
            went = left-append c.seen (Leave (last_of p).node.0 ∷ []) ∙ ap (λ (ns : List ℕ). ns ++ ((last_of p).node.0 ∷ [])) c.went ∙ sym more-went;
          }

      pub one_more : length (went_of C w (trims_on (popped p))) ≡ length (went_of C w (trims_on p)) + 1
      one_more = ap (λ (ns : List ℕ). length ns) more-went ∙ length-append (went_of C w (trims_on p)) ((last_of p).node.0 ∷ [])

    pub node_in : (last_of p).node.0 < P
    unfolding Behind
    node_in = c.cutting.behind.passed.inside

    -- The laws: what stays, and what goes
    lands-at : (last_of p).index < count C w (last_of p).node.0 → row C w (last_of p).node.0 (last_of p).index ≡ e
    unfolding Meets
    lands-at l = sym (rw (lt-ltb (last_of p).index (count C w (last_of p).node.0) l) at c.cutting.lands)

    pub edge_stays : (last_of p).index < count C w (last_of p).node.0 → Stays C w e (height C w root) root (trims_on p)
    unfolding Behind
    edge_stays l =
        let h = height C w (last_of p).node.0 in
        let n = (last_of p).node.0 in
        let k = (last_of p).index in
        let b = c.cutting.behind in
        stays-root C P w e root h n (above p) ((n, k) ∷ []) b.passed (stays_here C P w e h n k l c.cutting.below (lands-at l) c.cutting.gone refl) b.above

    -- all of the root goes
    pub edge-whole : count C w (last_of p).node.0 ≤ (last_of p).index → p.depth ≡ 1
        → (cut_pairs e (cut (height C w root) e) (first_pairs C w (height C w root) root (count C w root)) ≡ [])
        × (went_pairs (cut (height C w root) e) (went (height C w root) e) (first_pairs C w (height C w root) root (count C w root)) ≡ went_of C w (trims_on p))
    unfolding Behind Above trims_up went_of
    edge-whole l d =
        let n = (last_of p).node.0 in
        let z : above p ≡ [] = stack-none p.positions (p.depth - 1) (omega arith) in
        let k : (last_of p).index ≡ count C w n = omega (arith, c.cutting.behind.within) in
        let r : n ≡ root = (rw z at c.cutting).behind.above in
        let g : cut_pairs e (cut (height C w n) e) (first_pairs C w (height C w n) n (count C w n)) ≡ [] = rw (← k) c.cutting.gone in
        rw (← r) (g, all-went (height C w n) e (first_pairs C w (height C w n) n (count C w n)) g ∙ rw (z, k, append-nil (first_nodes C w (height C w n) n (count C w n))))

    -- each node was entered once
    pub edge-once : (m : ℕ) → occ m (root ∷ enters c.seen) ≤ 1
    unfolding firsts_of on_path
    edge-once m =
        let q = last_of p in
        omega (
          arith,
          (edge-stands c).1.each m,
          c.walked.held m,
          ap (λ (ns : List ℕ). occ m ns) c.went,
          path-firsts m (above p) ((q.node.0, q.index) ∷ []),
          ap (λ (st : List Position). occ m (on_path st)) (stack_pop p.positions p.depth c.deep),
          occ_cons m q.node.0 (on_path (above p)),
        )

    -- they are few
    pub edge_few : length (went_of C w (trims_on p)) ≤ P
    edge_few =
        let s = (edge-stands c).1 in
        most (went_of C w (trims_on p)) P (λ m l. none _ (λ o. omega (arith, (s.near m (omega arith)).1))) (λ m. (let o = s.each m in omega arith))

    -- and the first in postorder
    pub edge-first : take (length (went_of C w (trims_on p))) (root_nodes C w root) ≡ went_of C w (trims_on p)
    unfolding Behind
    edge-first = let b = c.cutting.behind in went-first C P w root (height C w (last_of p).node.0) (last_of p).node.0 (last_of p).index (above p) b.passed b.above b.within
