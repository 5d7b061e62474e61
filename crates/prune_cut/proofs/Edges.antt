-- An edge that was found: what may be written there, and what 01 asks of it.
use Prim.Native.Nat.{ℕ, suc, ◌+◌, ◌-◌, ◌<◌, ◌≤◌, zero-le}
use mathlib.Core.List.{List, [], ◌∷◌}
use mathlib.Core.Bool.{false}
use mathlib.Core.Path.{◌≡◌, refl, sym, ap, ◌∙◌, subst}
use native.Mathlib.Omega.{arith}
use native.Mathlib.Nat.{add-zero}
use lib.ListN.{length, take}
use borrow.Author.Tests.{le-leb, lt-leb}
use Rattle.model.specs.Words.{Shape, free_count, free_all, emptied, height, count, start}
use Rattle.model.specs.Tree.{Open, Level, level}
use Rattle.model.specs.Reading.{occ, root_nodes}
use Rattle.model.specs.Cut.{if_gone, cut_pairs, trim, cut, trims}
use Rattle.model.specs.Refusals.{result, refused, damaged}
use Rattle.model.specs.Prune.{Copies, unsound, copies, prune_tree, copies_from, root_copies, prune_with}
use Rattle.model.specs.Paths.{last_of, entered}
use Rattle.model.specs.declared.id.NodeNo.{NodeNo}
use Rattle.model.specs.declared.path.Position.{Position}
use Rattle.model.specs.declared.path.Path.{Path}
use Rattle.model.proofs.Sound.{sound-at}
use Rattle.node_test.proofs.Rows.{facts}
use Rattle.node_chain.specs.Chain.{listed}
use Rattle.node_chain.proofs.Listed.{length-listed}
use Rattle.tree_turn.specs.Left.{left, Valid}
use Rattle.prune_boundary.specs.Edge.{went_of, trims_on, Climbed, PruneEdge}
use Rattle.prune_boundary.specs.Trims.{trims_of, NoneBelow, Untouched}
use Rattle.prune_boundary.proofs.Joined.{root-high, depth_low}
use Rattle.prune_boundary.proofs.Distinct.{none, untouched_of, Standing, edge-stands}
use Rattle.prune_boundary.proofs.Climbs.{node_in, edge_stays, edge-whole, edge-once, edge_few, edge-first}
use Rattle.prune_boundary.proofs.Settled.{settled-last, settled-none, settled-trims}
use Rattle.prune_write.specs.Nodes.{AllIn}
use Rattle.prune_collapse.specs.Copied.{SoundTop, Collapses}
use Rattle.prune_cut.specs.Found.{Rooted, AllGo, SomeStay, reset_to, cut_to}
use Rattle.prune_cut.specs.Writable.{Resettable, Writable, cut_words}
use Rattle.prune_cut.proofs.Outside.{copies-outside}
use Rattle.prune_cut.proofs.Taken.{listed-take, all-take}
use Rattle.std.proofs.lemmas.List.{length-take-le}

module _ {C : Shape} {P : ℕ} {w : List ℕ} {e root f j : ℕ} {edge : Path} (R : Rooted C P w root f) (E : PruneEdge C P w e root edge j) where
  abbrev h : ℕ
  h = height C w root

  abbrev tree : Level (suc h)
  tree = level C w (suc h) root

  abbrev G : List ℕ
  G = went_of C w (trims_of edge)

  climbed : Climbed C P w e root E.from
  climbed = E.topped.climbed

  levels : E.from.depth ≤ h + 1
  levels = omega (arith, root-high climbed, climbed.deep)

  last-is : last_of edge ≡ last_of E.from
  last-is = settled-last E.from edge (h + 1) E.settled climbed.deep levels

  trims-is : trims_of edge ≡ trims_on E.from
  trims-is = settled-trims E.from edge (h + 1) E.settled climbed.deep levels

  went-is : G ≡ went_of C w (trims_on E.from)
  went-is = ap (went_of C w) trims-is

  -- what the code asks of an edge
  pub shaped : (0 < edge.depth) × (edge.depth ≤ 32) × (length edge.positions ≡ 32)
  shaped = let d = E.settled.depth_is in (omega (arith, d, climbed.deep), omega (arith, d, depth_low climbed), E.settled.long)

  pub none_below : NoneBelow edge (height C w root + 1)
  none_below = settled-none E.from edge (h + 1) E.settled climbed.deep levels

  pub last_in_lem : (last_of edge).node.0 < P
  last_in_lem = rw last-is (node_in climbed)

  pub sound-top : SoundTop C P w root
  sound-top = record { inside = R.inside; low = R.low; good = R.good }

  pub count-is : j ≡ length (went_of C w (trims_of edge))
  count-is = E.topped.counted ∙ ap (λ (ns : List ℕ). length ns) (sym went-is)

  pub count-few : j ≤ 65535
  count-few = omega (arith, E.topped.counted, edge_few climbed, R.header.pool-high)

  stands : (x : ℕ) × Standing C P w ((last_of E.from).index < count C w (last_of E.from).node.0) e x root (trims_of edge)
  stands = rw trims-is (edge-stands climbed)

  untouched : Untouched G (trims_of edge)
  untouched = untouched_of G (trims_of edge) stands.1.each

  root-valid : Valid C P w (height C w root) (entered root ∷ [])
  unfolding Valid
  root-valid = let g = facts C w root h (start C w root) Open R.good in record { inside = R.inside; high = refl; within = zero-le; narrow = g.many; above = omega (arith, R.low) }

  firsts : take j (root_nodes C w root) ≡ G
  firsts = ap (λ (k : ℕ). take k (root_nodes C w root)) E.topped.counted ∙ edge-first climbed ∙ sym went-is

  pub resettable : j ≤ P - f → Resettable C P w root edge j
  resettable l =
      record {
        ready = record {
          header = R.header;
          valid = root-valid;
          seen = climbed.seen;
          after = left false C P w E.from;
          parts = climbed.walked.one;
          all-clean = climbed.walked.all-clean;
          once-each = edge-once climbed;
          are = climbed.went ∙ sym went-is ∙ sym firsts;
          many = ap (λ (ns : List ℕ). length ns) climbed.went ∙ sym E.topped.counted;
          room = omega (arith, l, R.header.pool-high, R.free, R.free_in);
        };
        first = firsts;
        inside = R.inside;
        root-stays = omega (arith, stands.1.each root, stands.1.head);
      }

  -- All entries go -----------------------------------------------------------------------------------------
  pub all-full : P - f < j → (k : ℕ) → reset_to C P w root e k (trims_of edge) ≡ record { answer = damaged; words = w }
  unfolding reset_to
  all-full l k = rw (lt-leb (free_count w + length G) P (omega (arith, l, count-is, R.free, R.free_in)))

  pub all_done : j ≤ P - f → (k : ℕ) → reset_to C P w root e k (trims_of edge) ≡ record { answer = result (k ∷ j ∷ 0 ∷ []); words = free_all C (emptied C w root e) (went_of C w (trims_of edge)) }
  unfolding reset_to
  all_done l k = rw (count-is, le-leb (free_count w + length G) P (omega (arith, l, count-is, R.free, R.free_in)))

  pub whole_is : AllGo C w edge → (k : ℕ) → prune_with C P w root h e tree k (root_copies C P h e tree) ≡ reset_to C P w root e k (trims_of edge)
  unfolding prune_with root_copies prune_tree trim if_gone level reset_to
  whole_is a k =
      let b = subst (λ (q : Position). count C w q.node.0 ≤ q.index) last-is a in
      let q = edge-whole climbed b (E.topped.whole b) in
      let g = q.1 ∙ sym went-is in
      let z : cut_pairs e (cut h e) tree.pairs ≡ [] = q.0 in
      rw (z, z, g, add-zero (length G))

  -- Some stay ----------------------------------------------------------------------------------------------
  module _ (m : SomeStay C w edge) where
    kept : (last_of E.from).index < count C w (last_of E.from).node.0
    kept = rw last-is at m

    trims-are : trims (suc h) e tree (start C w root) ≡ trims_of edge
    trims-are = (edge_stays climbed kept).trimmed ∙ sym trims-is

    pub stays-is : (k : ℕ) → prune_with C P w root h e tree k (root_copies C P h e tree) ≡ cut_to C P w root e k (trims_of edge) (copies_from C P h e tree (start C w root))
    unfolding prune_with root_copies prune_tree trim if_gone level cut_to
    stays-is k = by_copies (copies_from C P h e tree (start C w root)) refl
      where
        by_copies : (c : Copies) → copies_from C P h e tree (start C w root) ≡ c → prune_with C P w root h e tree k (root_copies C P h e tree) ≡ cut_to C P w root e k (trims_of edge) c
        by_copies (unsound x) z = let s = edge_stays climbed kept in rw (s.left, z)
        by_copies (copies ns) z =
            let s = edge_stays climbed kept in
            let g = s.gone ∙ sym went-is in
            let y : cut_pairs e (cut h e) tree.pairs ≡ s.first ∷ s.others = s.left in
            rw (y, z, y, g, trims-are)

    -- the nodes to be copied, as they were found
    found : (c : Copies) → Collapses C P w root edge c → copies_from C P h e tree (start C w root) ≡ c
    unfolding Collapses
    found c are = sym (are e trims-are)

    -- what the cut comes to by them
    pub some-unsound : (k n : ℕ) → Collapses C P w root edge (unsound n) → cut_to C P w root e k (trims_of edge) (copies_from C P h e tree (start C w root)) ≡ record { answer = refused 2 n; words = w }
    unfolding cut_to
    some-unsound k n are = ap (cut_to C P w root e k (trims_of edge)) (found (unsound n) are)

    module _ (nodes : List NodeNo) (levels : ℕ) (are : Collapses C P w root edge (copies (listed nodes 0 levels))) where
      pub some-full : P - f < j + levels → (k : ℕ) → cut_to C P w root e k (trims_of edge) (copies_from C P h e tree (start C w root)) ≡ record { answer = damaged; words = w }
      unfolding cut_to
      some-full l k =
          ap (cut_to C P w root e k (trims_of edge)) (found (copies (listed nodes 0 levels)) are)
          ∙ rw (length-listed nodes 0 levels, lt-leb (free_count w + (length G + levels)) P (omega (arith, l, count-is, R.free, R.free_in)))

      pub some-done : j + levels ≤ P - f → levels ≤ length nodes → (k : ℕ) → cut_to C P w root e k (trims_of edge) (copies_from C P h e tree (start C w root))
          ≡ record { answer = result (k ∷ (j + levels) ∷ levels ∷ []); words = cut_words C w root e (trims_of edge) (listed (take levels nodes) 0 (length (take levels nodes))) }
      unfolding cut_to
      some-done l m k =
          ap (cut_to C P w root e k (trims_of edge)) (found (copies (listed nodes 0 levels)) are)
          ∙ rw (count-is, listed-take nodes levels m, length-listed nodes 0 levels, le-leb (free_count w + (length G + levels)) P (omega (arith, l, count-is, R.free, R.free_in)))

      -- and what may then be written
      pub writable : AllIn P nodes levels → j + levels ≤ P - f → levels ≤ length nodes → Writable C P w root edge j (take levels nodes)
      unfolding level
      writable a l m =
          let s = stands.1 in
          let right : (n : ℕ) → e ≤ start C w n → occ n G ≡ 0 = λ n z. none (occ n G) (λ o. omega (arith, s.early kept n o)) in
          let fits : free_count w + (length G + levels) ≤ P = omega (arith, l, count-is, R.free, R.free_in) in
          record {
            reset = resettable (omega (arith, l));
            low = shaped.1;
            long = shaped.2;
            trims = s.trimmed kept;
            found = all-take nodes levels m P a;
            stays = untouched;
            copies-stay = rw (listed-take nodes levels m) (copies-outside C P w e G right h root (sound-at (level C w h) C w h root (start C w root) Open ∙ R.good) (subst (Untouched G) (sym trims-are) untouched) (listed nodes 0 levels) (found (copies (listed nodes 0 levels)) are));
            room = omega (arith, fits, R.header.pool-high, length-take-le levels nodes m);
          }
