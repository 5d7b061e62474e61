-- One turn of the walk, and its parts.
use Rattle.std.specs.Prelude.{ℕ, ◌-◌, ◌<◌, ◌≤◌, List, Bool, false, ◌&&◌, ◌≡◌, Option, Some, None, Result, Ok, Err, ltb, eqb}
use Rattle.model.specs.Words.{Shape, pick, height, count, row, child}
use Rattle.model.specs.Tree.{Limit, node_at}
use Rattle.model.specs.Reading.{passes, next_row}
use Rattle.model.specs.declared.path.Position.{Position}
use Rattle.node_test.specs.Test.{limit_of, first_out}
use Rattle.model.specs.declared.answer.UnsoundNode.{UnsoundNode}
use Rattle.model.specs.declared.id.NodeNo.{NodeNo}
use Rattle.tree_turn.specs.declared.turn.Entered.{Entered}

-- a branch with an entry i
unfoldable pub has_child : Shape → List ℕ → ℕ → ℕ → Bool
has_child C w n i = ltb 0 (height C w n) && ltb i (count C w n)

-- the first child number out of range of a node of height h
unfoldable pub out_of : Shape → ℕ → List ℕ → ℕ → ℕ → ℕ
out_of C P w h n = pick (eqb h 0) (count C w n) (first_out C P w n 0 (count C w n))

-- a position of a node in the pool, with the first of its child numbers out of range
pub record Placed (C : Shape) (P : ℕ) (w : List ℕ) (at : Position) (first : ℕ) : Type 0 where
  pub inside : at.node.0 < P
  pub narrow : count C w at.node.0 ≤ C.cap
  pub first-is : first ≡ out_of C P w (height C w at.node.0) at.node.0
  pub ahead : at.index ≤ first

pub data Turning : Type 0 where
  up : Turning
  down : ℕ → Limit → ℕ → Turning
  bad : ℕ → Turning

abbrev pub turn_of : Result Entered UnsoundNode → Turning
turn_of (Ok e) = down e.child.0 (limit_of e.next) e.first
turn_of (Err u) = bad u.0.0

-- child i of branch n, tested
unfoldable pub entering : Shape → ℕ → List ℕ → ℕ → ℕ → Limit → Turning
entering C P w n i b =
    let c = child C w n i in
    let h = height C w n - 1 in
    let next = next_row C w n i b in
    pick (passes false C h (node_at C w c) (row C w n i) next) (down c next (out_of C P w h c)) (bad c)

-- the turn at entry i of node n, where b is next for the node
unfoldable pub turning : Shape → ℕ → List ℕ → ℕ → ℕ → Limit → Turning
turning C P w n i b =
    pick (has_child C w n i) (pick (ltb (child C w n i) P) (entering C P w n i b) (bad n)) up

-- the turn that tests nothing
unfoldable pub stepping : Shape → List ℕ → ℕ → ℕ → Option NodeNo
stepping C w n i = pick (has_child C w n i) (Some (record { 0 = child C w n i })) None
