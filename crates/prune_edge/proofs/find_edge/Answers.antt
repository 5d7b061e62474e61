use native.Mathlib.Omega.{arith}
use Rattle.prune_boundary.proofs.Climbs.{ended-low, ended-high}
use Rattle.prune_boundary.proofs.Joined.{edge-ahead}
use Rattle.prune_edge.specs.Found.{Climbs, Finds}
use Rattle.prune_edge.proofs.find_edge.Goals as goal

pub settle-requires : goal.settle-requires
unfolding Climbs
settle-requires c =
    let p = c.requires in
    let t = c.climb-climbed.ensures _ _ p.given.2 in
    record { levels_bound = (ended-low p.given.2, t.climbed.long); by_index = λ i m. edge-ahead t.climbed i (omega arith) }

pub returns : goal.returns
unfolding Climbs Finds
returns c = λ e n d. record { from = _; topped = c.climb-climbed.ensures e n d; settled = rw (ended-high d) c.settle.ensures }
