use mathlib.Core.Path.{◌≡◌, refl, sym, ◌∙◌}
use native.Mathlib.Omega.{arith}
use lib.ListN.{length}
use Rattle.std.proofs.Common.{rules}
use Rattle.model.specs.Words.{fill}
use Rattle.answer_words.proofs.Filling.{five, fill_next}
use Rattle.answer_words.proofs.tell.Goals as goal

pub loop-i-init : goal.loop-i-init
loop-i-init c = refl

pub loop-i-preserved : goal.loop-i-preserved
loop-i-preserved c = rw c.put.ensures (sym (fill_next c.loop-i.out _ c.loop-i.i c.loop-i-test.true) ∙ c.loop-i.invariant)

pub returns : goal.returns
unfolding fill
returns c =
    let h : length c.args.n.values ≡ 5 = search rules in
    let e : c.loop-i.i ≡ 7 = omega (arith, c.loop-i.auto.i-end, c.loop-i-test.false) in
    record { array = rw e at c.loop-i.invariant ∙ rw (five c.args.n.values h) refl; number = refl }
