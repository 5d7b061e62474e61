-- The check of the list as the code answers it.
use Rattle.std.specs.Prelude.{ℕ, suc, ◌<◌, ◌≤◌, List, [], true, false, ◌≡◌, Result, Ok, Err, drop, length}
use Rattle.model.specs.Words.{Shape, height, start}
use Rattle.model.specs.Tree.{Open, level, node_at}
use Rattle.model.specs.Reading.{passes, visits}
use Rattle.model.specs.Prune.{Scan, on, ran_out, scan}
use Rattle.model.specs.declared.id.NodeNo.{NodeNo}
use Rattle.model.specs.declared.id.RowID.{RowID}
use Rattle.node_read.specs.Layout.{shape_of}
use Rattle.node_read.specs.declared.layout.Layout.{Layout}
use Rattle.tree_turn.specs.Left.{below}
use Rattle.prune_boundary.specs.Behind.{Passed}
use Rattle.model.specs.declared.answer.Refusal.{Refusal}
use Rattle.model.specs.Refusals.{refusal}
use Rattle.prune_leaf.specs.Progress.{Last, stopped_by}
use Rattle.prune_boundary.specs.Edge.{Ended}
use Rattle.prune_list.specs.declared.Prefix.{Prefix}

-- no ids are left, and the last entry ends at e
abbrev pub prefix_of : ℕ → Result Prefix Refusal → Scan
prefix_of e (Ok x) = on [] x.entries e
prefix_of e (Err r) = stopped_by (refusal r)

-- where the list is accepted
unfoldable pub Ending : Shape → ℕ → List ℕ → ℕ → ℕ → Result Prefix Refusal → Type 0
Ending C P w e root (Ok x) = Ended C P w e root x.path x.used x.left
Ending C P w e root (Err r) = Unit {0}

-- what the leaves below node n, and those of the tree from root n, come to against the ids
abbrev pub below_scan : Layout → List ℕ → RowID → NodeNo → List ℕ → ℕ → RowID → Scan
below_scan l w e n ids p c =
    ran_out e.0 (scan (shape_of l) w e.0 (below false (shape_of l) l.pool w n.0) (on (drop p ids) p c.0))

abbrev pub tree_scan : Layout → List ℕ → ℕ → ℕ → List ℕ → Scan
tree_scan l w e n ids =
    let C = shape_of l in
    let h = height C w n in
    ran_out e (scan C w e (visits false C l.pool (suc h) n (level C w (suc h) n) (start C w n) Open) (on ids 0 0))

-- a root that passed its test
abbrev pub PassedRoot : Layout → List ℕ → ℕ → Type 0
PassedRoot l w n =
    let C = shape_of l in
    (n < l.pool) × (height C w n ≤ 31) × (passes false C (height C w n) (node_at C w n) (start C w n) Open ≡ true)

-- node n passed its test, and where the list is used up to place p, its entry p - 1 is the last named
abbrev pub Begun : Layout → List ℕ → ℕ → List ℕ → ℕ → ℕ → Type 0
Begun l w n ids p c = Passed (shape_of l) l.pool w (height (shape_of l) w n) n [] × (length ids ≤ p → Last (shape_of l) w n p c)
