use mathlib.Core.Path.{ap}
use native.Mathlib.Omega.{arith}
use Rattle.model.specs.declared.node.RowPageIndexNodeHeader.{RowPageIndexNodeHeader}
use Rattle.prune_boundary.proofs.Joined.{depth_low}
use Rattle.prune_boundary.proofs.Climbs.{ended-low, node_in}
use Rattle.prune_edge.specs.Found.{Climbs}
use Rattle.prune_edge.proofs.Climbing.{start_climbing, step, topped}
use Rattle.prune_edge.proofs.climb.Goals as goal

pub overflow_sub-at : goal.overflow_sub-at
overflow_sub-at c = let d = c.requires.given.2 in omega (arith, d.deep)

pub offset_bounds-edge-at : goal.offset_bounds-edge-at
offset_bounds-edge-at c = let d = c.requires.given.2 in omega (arith, d.deep, ended-low d)

pub bounds-edge-at : goal.bounds-edge-at
bounds-edge-at c = let d = c.requires.given.2 in omega (arith, d.deep, d.long, ended-low d)

pub loop-edge-init : goal.loop-edge-init
loop-edge-init c = let d = c.requires.given.2 in start_climbing _ _ _ _ _ d (ended-low d)

pub bounds-edge-above : goal.bounds-edge-above
bounds-edge-above c = let x = c.loop-edge.invariant in omega (arith, x.low, x.climbed.long, depth_low x.climbed, c.loop-edge-test.true)

pub header-requires : goal.header-requires
header-requires c = let x = c.loop-edge.invariant in node_in x.climbed

pub returns-then-top-header : goal.returns-then-top-header
unfolding Climbs
returns-then-top-header c = λ e n d. topped e n _ _ _ _ _ c.args.s.fits c.loop-edge.invariant (λ m. absurd (omega (arith, m, c.if-top-header.true, ap (λ (h : RowPageIndexNodeHeader). h.count) c.header.ensures))) d

pub loop-edge-preserved : goal.loop-edge-preserved
loop-edge-preserved c = step c.loop-edge.invariant c.loop-edge-test.true (omega (arith, c.if-top-header.false, ap (λ (h : RowPageIndexNodeHeader). h.count) c.header.ensures))

pub returns : goal.returns
unfolding Climbs
returns c = let x = c.loop-edge.invariant in λ e n d. topped e n _ _ _ _ _ c.args.s.fits x (λ m. omega (arith, x.climbed.deep, c.loop-edge-test.false)) d
