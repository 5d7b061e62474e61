-- The reading with ends, beside the one without.
use Rattle.std.specs.Prelude.{ℕ, List, Option, Some, None, Result, Err, ltb}
use Rattle.model.specs.Words.{Shape, pick, height, end}
use Rattle.model.specs.Tree.{Limit}
use Rattle.model.specs.Reading.{end_fits}
use Rattle.model.specs.declared.answer.UnsoundNode.{UnsoundNode}
use Rattle.model.specs.declared.id.NodeNo.{NodeNo}
use Rattle.tree_tally.specs.declared.Counts.{Counts}

-- node n, unless one came before it
abbrev pub first_of : Option NodeNo → ℕ → Option NodeNo
first_of None n = Some (record { 0 = n })
first_of (Some m) n = Some m

-- the first branch whose end is wrong, once node n was looked at; m is the one before, if there is one
unfoldable pub wrong_end : Shape → List ℕ → ℕ → Limit → Option NodeNo → Option NodeNo
wrong_end C w n b m = pick (end_fits (height C w n) b (end C w n)) m (first_of m n)

-- what is told where the rest tells t: a wrong end seen comes first
abbrev pub with_ends : Option NodeNo → Result Counts UnsoundNode → Result Counts UnsoundNode
with_ends None t = t
with_ends (Some m) t = Err (record { 0 = m })

-- a wrong end as the walk keeps it: a node number, P where there is none
unfoldable pub wrong_of : ℕ → ℕ → Option NodeNo
wrong_of P m = pick (ltb m P) (Some (record { 0 = m })) None
