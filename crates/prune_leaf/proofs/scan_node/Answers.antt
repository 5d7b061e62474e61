use mathlib.Core.Path.{sym, ◌∙◌}
use Rattle.model.proofs.Order.{lt_holds, lt_fails, ne_holds, ne_fails}
use Rattle.prune_leaf.proofs.Scans.{turn-used, turn-page, turn_end, turn_on, turns-end}
use Rattle.prune_leaf.proofs.scan_node.Goals as goal

pub returns-then-ids-place : goal.returns-then-ids-place
returns-then-ids-place c = sym (c.loop-i.invariant ∙ turn-used _ _ _ _ _ _ _ _ _ c.if-ids-place.true)

pub returns-then-ne : goal.returns-then-ne
returns-then-ne c = sym (c.loop-i.invariant ∙ turn-page _ _ _ _ _ _ _ _ _ c.loop-i-test.true c.if-ids-place.false (λ q. ne_holds _ _ (sym c.ne.ensures ∙ c.if-ne.true) (c.page.ensures ∙ q)))

pub returns-then-lt : goal.returns-then-lt
returns-then-lt c = sym (c.loop-i.invariant ∙ turn_end _ _ _ _ _ _ _ _ _ c.loop-i-test.true c.if-ids-place.false (sym c.page.ensures ∙ ne_fails _ _ (sym c.ne.ensures ∙ c.if-ne.false)) (rw c.entry_end-next.ensures at (lt_holds c.args.end.0 c.entry_end-next.result.0 (sym c.lt.ensures ∙ c.if-lt.true))))

pub loop-i-preserved : goal.loop-i-preserved
loop-i-preserved c = c.loop-i.invariant ∙ turn_on _ _ _ _ _ _ _ _ _ c.loop-i-test.true c.if-ids-place.false (sym c.page.ensures ∙ ne_fails _ _ (sym c.ne.ensures ∙ c.if-ne.false)) (rw c.entry_end-next.ensures at (lt_fails c.args.end.0 c.entry_end-next.result.0 (sym c.lt.ensures ∙ c.if-lt.false))) ∙ rw c.entry_end-next.ensures

pub returns : goal.returns
returns c = sym (c.loop-i.invariant ∙ turns-end _ _ _ _ _ _ _ c.loop-i-test.false)
