-- A walk over a tree in reading order: what holds of it, and what a turn makes of it.
use Rattle.std.specs.Prelude.{ℕ, ◌-◌, ◌<◌, ◌≤◌, List, length, get_or, set, replicate, ◌≡◌, Option, Some, None, Result, Ok, Err}
use Rattle.model.specs.Words.{Shape, height}
use Rattle.model.specs.Paths.{no_position, stack, last_of, rooted, popped, entered_path}
use Rattle.model.specs.declared.answer.UnsoundNode.{UnsoundNode}
use Rattle.node_test.specs.Test.{limit_of}
use Rattle.tree_turn.specs.Left.{bound, ValidPath}
use Rattle.tree_turn.specs.Turn.{out_of, Turning, up, down, bad, turning}
use Rattle.tree_turn.specs.declared.turn.Entered.{Entered}
use Rattle.tree_turn.specs.declared.walk.TreeWalk.{TreeWalk}

-- what stands beside position d
pub record Beside (C : Shape) (P : ℕ) (w : List ℕ) (t : TreeWalk) (d : ℕ) : Type 0 where
  pub next-is : limit_of (get_or t.nexts d None) ≡ bound C w (stack t.path.positions d)
  pub first-is : get_or t.firsts d 0 ≡ out_of C P w (height C w (get_or t.path.positions d no_position).node.0) (get_or t.path.positions d no_position).node.0
  pub ahead : (get_or t.path.positions d no_position).index ≤ get_or t.firsts d 0

-- what holds of a walk between its turns
pub record Walking (C : Shape) (P : ℕ) (w : List ℕ) (t : TreeWalk) : Type 0 where
  pub valid : ValidPath C P w t.path
  pub deep : t.path.depth ≤ 32
  pub long : length t.path.positions ≡ 32
  pub long-next : length t.nexts ≡ 32
  pub long-first : length t.firsts ≡ 32
  pub beside : (d : ℕ) → d < t.path.depth → Beside C P w t d

-- a walk at a node just entered
abbrev pub rooted_walk : ℕ → ℕ → TreeWalk
rooted_walk n first = record { path = rooted n; nexts = set (replicate 32 (Some (record { 0 = 0 }))) 0 None; firsts = replicate 32 first }

-- the turn at the last position
abbrev pub turn_at : Shape → ℕ → List ℕ → TreeWalk → Turning
turn_at C P w t =
    let at = last_of t.path in
    turning C P w at.node.0 at.index (limit_of (get_or t.nexts (t.path.depth - 1) None))

-- what a turn tells: the last node was left, a child was entered, or a node is unsound
abbrev pub told : Result (Option Entered) UnsoundNode → Turning
told (Ok None) = up
told (Ok (Some e)) = down e.child.0 (limit_of e.next) e.first
told (Err u) = bad u.0.0

-- the last node left; a child entered
abbrev pub left_walk : TreeWalk → TreeWalk
left_walk t = record { path = popped t.path; nexts = t.nexts; firsts = t.firsts }

abbrev pub entered_walk : TreeWalk → Entered → TreeWalk
entered_walk t e = record { path = entered_path t.path e.child.0; nexts = set t.nexts t.path.depth e.next; firsts = set t.firsts t.path.depth e.first }

-- the walk after a turn that told this
abbrev pub walk_after : TreeWalk → Result (Option Entered) UnsoundNode → TreeWalk
walk_after t (Ok None) = left_walk t
walk_after t (Ok (Some e)) = entered_walk t e
walk_after t (Err u) = t

-- a turn from walk t to walk v: it tells what the turn at the last position is, and does that
pub record Turned (C : Shape) (P : ℕ) (w : List ℕ) (t : TreeWalk) (r : Result (Option Entered) UnsoundNode) (v : TreeWalk) : Type 0 where
  pub tells : told r ≡ turn_at C P w t
  pub after : v ≡ walk_after t r
  pub walking : Walking C P w v
