use borrow.Author.Rules.{rules}
use Prim.Native.Nat.{◌<◌}
use mathlib.Core.Path.{sym, ap, ◌∙◌}
use native.Mathlib.Omega.{arith}
use Rattle.std.proofs.lemmas.List.{get_or-take, length-take-le}
use Rattle.model.specs.Paths.{no_position}
use Rattle.model.specs.Prune.{trim_all}
use Rattle.prune_boundary.specs.Trims.{Trims}
use Rattle.prune_write.proofs.Turns.{trims-next, trims-turn, trims-stop}
use Rattle.prune_write.proofs.trim_all.Goals as goal

pub trim_node-requires : goal.trim_node-requires
unfolding Trims
trim_node-requires c =
    let e = c.args.edge in
    let i = c.loop-p.p-index in
    let h : i < e.depth = omega (arith, c.requires.depth_bound.0, c.requires.depth_bound.1, length-take-le e.depth e.positions) in
    let t = rw (trims-turn e.positions e.depth i h) at c.loop-p.invariant.1 in
    record { n_lt_pool = rw (c.loop-p.invariant.0.layout, get_or-take e.depth e.positions i _ h) (t.inside, omega (arith, t.keeps), t.narrow) }

pub loop-p-preserved : goal.loop-p-preserved
unfolding trim_all
loop-p-preserved c =
    let e = c.args.edge in
    let x = c.loop-p in
    let h : x.p-index < e.depth = omega (arith, c.requires.depth_bound.0, c.requires.depth_bound.1, length-take-le e.depth e.positions) in
    let g = get_or-take e.depth e.positions x.p-index no_position h in
    let w = rw (x.invariant.0.layout, g) at c.trim_node.ensures.words in
    let m = trims-turn e.positions e.depth x.p-index h in
    let q = trims-next _ _ x.s.words.now (rw x.invariant.0.layout at x.s.fits) _ _ c.args.end.0 _ (rw m at x.invariant.1) in
    (search rules, rw w q.1, rw w (x.invariant.2 ∙ ap (trim_all _ x.s.words.now _) m))

pub returns-clause-words : goal.returns-clause-words
unfolding trim_all
returns-clause-words c =
    let e = c.args.edge in
    sym (c.loop-p.invariant.2 ∙ ap (trim_all _ c.loop-p.s.words.now _) (trims-stop e.positions e.depth c.loop-p.p-index (omega (arith, c.requires.depth_bound.0, c.requires.depth_bound.1, length-take-le e.depth e.positions))))
