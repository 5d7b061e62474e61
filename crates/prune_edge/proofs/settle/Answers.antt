use mathlib.Core.Path.{ap}
use native.Mathlib.Omega.{arith}
use Rattle.model.specs.declared.path.Position.{Position}
use Rattle.prune_edge.proofs.Settling.{done, settle_one}
use Rattle.prune_edge.proofs.settle.Goals as goal

pub goes-requires : goal.goes-requires
goes-requires c =
    let x = c.loop-i in
    let l = c.loop-i-test.true in
    let p = c.requires in
    (omega (arith, l, p.levels_bound.0), λ m. (let q = p.by_index x.i (omega (arith, m, x.invariant.settled.depth_is)) in omega (arith, q, ap (λ (y : Position). y.index) (x.invariant.rest x.i (omega arith)))))

pub loop-i-preserved : goal.loop-i-preserved
loop-i-preserved c = settle_one c.loop-i.invariant c.loop-i-test.true c.requires.levels_bound.0 _ c.goes.ensures

pub returns : goal.returns
returns c = done c.loop-i.invariant c.loop-i-test.false
