use Prim.Native.Nat.{◌+◌}
use mathlib.Core.Path.{refl, ◌∙◌, ap}
use native.Mathlib.Omega.{arith}
use lib.ListN.{length, take}
use Rattle.model.proofs.Fill.{length-fill}
use Rattle.next_words.proofs.Writing.{one_more, none}
use Rattle.next_words.proofs.copy_front.Goals as goal

pub loop-i-init : goal.loop-i-init
loop-i-init c = (omega arith, refl, none c.args.out.now c.args.from.now)

pub loop-i-preserved : goal.loop-i-preserved
loop-i-preserved c =
    let a = c.args in
    let at = c.loop-i in
    let step = one_more a.out.now a.from.now at.out at.i (omega (arith, c.loop-i-test.true)) at.invariant.2 in
    (omega (arith, c.loop-i-test.true), ap length step ∙ length-fill a.out.now 0 (take (at.i + 1) a.from.now), step)
