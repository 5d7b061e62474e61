-- The loop over the leaves: what it knows at each turn, and what a turn keeps.
use Prim.Native.Nat.{ℕ, suc, ◌+◌, ◌-◌, ◌<◌, ◌≤◌}
use mathlib.Core.List.{List, [], ◌∷◌, ◌++◌, append-nil}
use mathlib.Core.Bool.{true, false}
use mathlib.Core.Path.{◌≡◌, refl, sym, ap, ◌∙◌, subst}
use native.Mathlib.Omega.{arith}
use native.Mathlib.Nat.{sub-zero}
use lib.ListN.{get_or, length, length-append, drop}
use lib.Dec.{eqb}
use Rattle.model.specs.Words.{Shape, pick, height, count, start}
use Rattle.model.specs.Tree.{Open, node_at, level}
use Rattle.model.specs.Reading.{Visit, Enter, Leave, passes, visits}
use Rattle.model.specs.Prune.{Scan, stopped, on, scan_leaf, spoilt, scan, ran_out}
use Rattle.model.specs.Paths.{no_position, last_of, entered, turned_path, entered_path}
use Rattle.model.specs.declared.path.Position.{Position}
use Rattle.model.specs.declared.path.Path.{Path}
use Rattle.node_test.specs.Test.{limit_of}
use Rattle.law_formed.specs.Visits.{lefts}
use Rattle.law_formed.proofs.Tally.{left-append}
use Rattle.tree_tally.specs.Tally.{more, few}
use Rattle.tree_tally.proofs.Few.{few-more, few-is}
use Rattle.tree_turn.specs.Left.{bound, rest, below, left, Valid}
use Rattle.tree_turn.specs.Trace.{Walked}
use Rattle.tree_turn.specs.Turn.{out_of, down}
use Rattle.tree_turn.specs.Walk.{Walking, Turned, rooted_walk, turn_at}
use Rattle.tree_turn.specs.declared.turn.Entered.{Entered}
use Rattle.tree_turn.specs.declared.walk.TreeWalk.{TreeWalk}
use Rattle.tree_turn.proofs.Rest.{left-none, child-good}
use Rattle.tree_turn.proofs.Branch.{left_it, went}
use Rattle.tree_turn.proofs.InPlace.{rooted-left, entered-trail, entered-last}
use Rattle.tree_turn.proofs.Trace.{start-walked, walked-out, walked_in}
use Rattle.tree_turn.proofs.Turns.{falls, start-walking, turn_up, held_up, turn-bad, room, turn-down, held_down}
use Rattle.model.specs.Refusals.{Answer, result, refused}
use Rattle.prune_boundary.specs.Behind.{Passed, BehindPath}
use Rattle.prune_leaf.specs.Progress.{Last}
use Rattle.prune_boundary.specs.Edge.{went_of, trims_on, Ended}
use Rattle.prune_leaf.specs.Progress.{stopped_by}
use Rattle.model.specs.declared.answer.UnsoundNode.{UnsoundNode}
use Rattle.std.specs.Prelude.{Some, None, Ok, Err}
use Rattle.tree_turn.proofs.Tests.{no_more}
use Rattle.prune_boundary.proofs.Behind.{sound-level, start-behind, at_last_lem, path-out, path_in}
use Rattle.prune_boundary.proofs.Went.{went-rooted, went-entered, went-popped}
use Rattle.prune_leaf.proofs.Scans.{one_left, none_left, ends-long, scan-stopped, scan-used, noded}

-- S is what the list comes to; it is named up to a place, and the last entry named ends at a row
pub record Scanning (C : Shape) (P : ℕ) (w : List ℕ) (e root : ℕ) (ids : List ℕ) (S : Scan) (t : TreeWalk) (named to last nodes : ℕ) : Type 0 where
  pub walking : Walking C P w t
  pub told : S ≡ ran_out e (scan C w e (left false C P w t.path) (on (drop named ids) named to))
  pub behind : BehindPath C P w root t.path
  pub named-last : length ids ≤ named → (0 < t.path.depth) × Last C w (last_of t.path).node.0 last to
  pub seen : List Visit
  pub walked : Walked C P w root seen t.path
  pub went : 0 < t.path.depth → lefts seen ≡ went_of C w (trims_on t.path)
  pub counted : nodes ≡ few (length (lefts seen))

module _ {C : Shape} {P : ℕ} {w : List ℕ} {e root : ℕ} {ids : List ℕ} {S : Scan} {t : TreeWalk} {named to last nodes : ℕ} (G : Scanning C P w e root ids S t named to last nodes) where
  abbrev p : Path
  p = t.path

  -- the list is used
  pub used : length ids ≤ named → S ≡ ran_out e (on [] named to)
  used l = G.told ∙ rw (none_left ids named l, scan-used C w e (left false C P w p) named to)

  pub used-ending : length ids ≤ named → to ≡ e → Ended C P w e root t.path last nodes
  used-ending l q =
      let n = G.named-last l in
      record { deep = n.0; long = G.walking.long; valid = G.walking.valid; behind = G.behind; last = subst (λ (c : ℕ). Last C w (last_of p).node.0 last c) q n.1; seen = G.seen; walked = G.walked; went = G.went n.0; counted = G.counted }

  module _ (l : named < length ids) where
    -- no leaf is left, but ids are
    pub too_long : t.path.depth ≡ 0 → stopped 11 named ≡ S
    unfolding scan
    too_long z = sym (G.told ∙ rw (left-none false C P w p z) (ends-long e ids named to l))

    module _ (z : 0 < t.path.depth) {v : TreeWalk} where
      pub scanning_up : Turned C P w t (Ok None) v → Scanning C P w e root ids S v named to last (more nodes 1)
      unfolding scan lefts
      scanning_up q =
          let f = q.tells in
          subst (λ (u : TreeWalk). Scanning C P w e root ids S u named to last (more nodes 1)) (sym q.after) (record {
            walking = held_up G.walking z f;
            told = G.told ∙ rw (turn_up G.walking z f false).one;
            behind = path-out C P w root p z G.behind (left_it C P w (last_of p).node.0 (last_of p).index (limit_of (get_or t.nexts (p.depth - 1) None)) f);
            named-last = λ h. absurd (omega arith);
            seen = G.seen ++ (Leave (last_of p).node.0 ∷ []);
            walked = walked-out G.walked z (turn_up G.walking z f false);
            went = λ d. (left-append G.seen (Leave (last_of p).node.0 ∷ []) ∙ ap (λ (ns : List ℕ). ns ++ ((last_of p).node.0 ∷ [])) (G.went z)
                ∙ sym (went-popped C P w p z root (at_last_lem C P w root p z G.behind) (omega arith) (no_more C w (last_of p).node.0 (last_of p).index (left_it C P w (last_of p).node.0 (last_of p).index (limit_of (get_or t.nexts (p.depth - 1) None)) f))));
            counted = rw (G.counted, few-more (length (lefts G.seen))) (ap few (sym (ap (λ (ns : List ℕ). length ns) (left-append G.seen (Leave (last_of p).node.0 ∷ [])) ∙ length-append (lefts G.seen) ((last_of p).node.0 ∷ []))));
          })

      -- an unsound node, with ids left
      pub scanning_bad : {x : UnsoundNode} → Turned C P w t (Err x) v → stopped 2 x.0.0 ≡ S
      unfolding scan spoilt ran_out
      scanning_bad {x} q = sym (G.told ∙ rw ((turn-bad G.walking z q.tells false).one, one_left ids named l, scan-stopped C w e (left false C P w (turned_path p)) 2 x.0.0))

      module _ (kid : Entered) (goes : Turned C P w t (Ok (Some kid)) v) where
        abbrev c : ℕ
        c = kid.child.0

        abbrev f : down kid.child.0 (limit_of kid.next) kid.first ≡ turn_at C P w t
        f = goes.tells

        abbrev of_node : Scan
        of_node = pick (eqb (height C w c) 0) (scan_leaf C w e c 0 (count C w c) (on (drop named ids) named to)) (on (drop named ids) named to)

        entering : S ≡ ran_out e (scan C w e (left false C P w (entered_path p c)) of_node)
        unfolding scan
        entering = G.told ∙ rw (turn-down G.walking z f false refl).one

        -- the child's entries stop the list
        pub scanning_stop : (a : Answer) → stopped_by a ≡ of_node → stopped_by a ≡ S
        unfolding ran_out
        scanning_stop (result xs) q = sym (entering ∙ rw (← q, scan-stopped C w e (left false C P w (entered_path p c)) 0 0))
        scanning_stop (refused a d) q = sym (entering ∙ rw (← q, scan-stopped C w e (left false C P w (entered_path p c)) a d))

        at-child : (named₂ to₂ : ℕ) → Last C w c (named₂ - named) to₂ → Last C w (last_of (entered_path p c)).node.0 (named₂ - named) to₂
        at-child named₂ to₂ k =
            let y : p.depth + 1 - 1 ≡ p.depth = omega arith in
            let x : (last_of (entered_path p c)).node.0 ≡ c = ap (λ (j : ℕ). (get_or (entered_path p c).positions j no_position).node.0) y ∙ ap (λ (a : Position). a.node.0) (entered-last p z G.walking.long c (room G.walking z f)) in
            subst (λ (n : ℕ). Last C w n (named₂ - named) to₂) (sym x) k

        pub scanning_on : (named₂ to₂ : ℕ) → on (drop named₂ ids) named₂ to₂ ≡ of_node → named ≤ named₂
        scanning_on named₂ to₂ q = (noded C w e c named to (drop named ids) named₂ to₂ (drop named₂ ids) q).0

        same-lefts : lefts (G.seen ++ (Enter c ∷ [])) ≡ lefts G.seen
        unfolding lefts
        same-lefts = left-append G.seen (Enter c ∷ []) ∙ append-nil (lefts G.seen)

        pub scanning_down : (named₂ to₂ : ℕ) → on (drop named₂ ids) named₂ to₂ ≡ of_node → Scanning C P w e root ids S v named₂ to₂ (named₂ - named) nodes
        unfolding lefts
        scanning_down named₂ to₂ q =
            subst (λ (u : TreeWalk). Scanning C P w e root ids S u named₂ to₂ (named₂ - named) nodes) (sym goes.after) (record {
              walking = held_down G.walking z kid f;
              told = entering ∙ rw (← q);
              behind = path_in C P w root p z G.behind (G.walking.beside (p.depth - 1) (omega arith)).next-is (went C P w (last_of p).node.0 (last_of p).index _ c (limit_of kid.next) kid.first f) (entered-trail p z G.walking.long c (room G.walking z f));
              named-last = λ m. (omega arith, at-child named₂ to₂ ((noded C w e c named to (drop named ids) named₂ to₂ (drop named₂ ids) q).1 (omega arith)));
              seen = G.seen ++ (Enter c ∷ []);
              walked = walked_in G.walked z c G.walking.long (room G.walking z f) (turn-down G.walking z f false refl);
              went = λ d. (same-lefts ∙ G.went z ∙ went-entered C P w p z G.walking.long (room G.walking z f) c);
              counted = G.counted ∙ ap (λ (ns : List ℕ). few (length ns)) (sym same-lefts);
            })

-- the first turn, at a node just entered
pub start_scanning : (C : Shape) (P : ℕ) (w : List ℕ) (e : ℕ) (ids : List ℕ) (root first named to last : ℕ) → Valid C P w (height C w root) (entered root ∷ []) → first ≡ out_of C P w (height C w root) root
    → Passed C P w (height C w root) root [] → (length ids ≤ named → Last C w root last to)
    → Scanning C P w e root ids (ran_out e (scan C w e (below false C P w root) (on (drop named ids) named to))) (rooted_walk root first) named to last 0
unfolding lefts
start_scanning C P w e ids root first named to last v f g k =
    record { walking = start-walking C P w root first v f; told = ap (λ (vs : List Visit). ran_out e (scan C w e vs (on (drop named ids) named to))) (sym (rooted-left false C P w root v)); behind = start-behind C P w root g; named-last = λ m. (omega arith, k m); seen = []; walked = start-walked v; went = λ d. went-rooted C P w root; counted = sym (few-is 0 (omega arith)) }

-- from a root that passed its test
module _ (C : Shape) (P : ℕ) (w : List ℕ) (e n : ℕ) (inside-pool : n < P) (pass : passes false C (height C w n) (node_at C w n) (start C w n) Open ≡ true) where
  pub tree-scan : (s : Scan) → scan C w e (visits false C P (suc (height C w n)) n (level C w (suc (height C w n)) n) (start C w n) Open) s
      ≡ scan C w e (below false C P w n) (pick (eqb (height C w n) 0) (scan_leaf C w e n 0 (count C w n) s) s)
  unfolding scan bound rest
  tree-scan s =
      let q : visits false C P (suc (height C w n)) n (level C w (suc (height C w n)) n) (start C w n) Open ≡ Enter n ∷ below false C P w n =
      sym (append-nil (visits false C P (suc (height C w n)) n (level C w (suc (height C w n)) n) (start C w n) Open)) ∙ child-good false C P w (height C w n) n n (start C w n) [] inside-pool pass in
      ap (λ (vs : List Visit). scan C w e vs s) q

  pub tree-stopped : (ids : List ℕ) (a : Answer) → stopped_by a ≡ pick (eqb (height C w n) 0) (scan_leaf C w e n 0 (count C w n) (on ids 0 0)) (on ids 0 0)
      → stopped_by a ≡ ran_out e (scan C w e (visits false C P (suc (height C w n)) n (level C w (suc (height C w n)) n) (start C w n) Open) (on ids 0 0))
  unfolding ran_out
  tree-stopped ids (result xs) q = sym (rw (tree-scan (on ids 0 0), ← q, scan-stopped C w e (below false C P w n) 0 0))
  tree-stopped ids (refused a d) q = sym (rw (tree-scan (on ids 0 0), ← q, scan-stopped C w e (below false C P w n) a d))

  -- the root's own entries used the list
  pub root-last : (ids : List ℕ) (p c : ℕ) → on (drop p ids) p c ≡ pick (eqb (height C w n) 0) (scan_leaf C w e n 0 (count C w n) (on ids 0 0)) (on ids 0 0) → 0 < length ids
      → length ids ≤ p → Last C w n p c
  root-last ids p c q l m = subst (λ (u : ℕ). Last C w n u c) (sub-zero p) ((noded C w e n 0 0 ids p c (drop p ids) q).1 (omega arith))

  pub root-passed : Passed C P w (height C w n) n []
  unfolding bound
  root-passed = record { inside = inside-pool; good = sound-level C P w (height C w n) n (start C w n) Open pass }

pub ruleset scan_turns = (falls, turn_up, turn-down)
