use mathlib.Core.Path.{sym, ◌∙◌}
use native.Mathlib.Omega.{arith}
use borrow.Author.Tests.{eqb-true, eqb-false}
use Rattle.std.proofs.lemmas.Result.{err_from_is_err_and}
use Rattle.model.specs.Refusals.{refusal}
use Rattle.tree_turn.proofs.Turns.{narrow}
use Rattle.prune_leaf.specs.Progress.{EndsAt}
use Rattle.prune_list.specs.Named.{Ending}
use Rattle.prune_list.proofs.Scanning.{start_scanning, used, used-ending, too_long, scanning_up, scanning_bad, scanning_stop, scanning_on, scanning_down}
use Rattle.prune_list.proofs.scan_below.Goals as goal

pub loop-named-init : goal.loop-named-init
loop-named-init c =
    let a = c.args in
    let p = c.requires in
    rw c.rooted-walk.ensures (start_scanning _ _ _ a.end.0 a.ids.now a.node.0 a.first a.from.place a.from.reached.0 a.from.place p.valid p.first_value p.begun.0 p.begun.1)

pub returns-then-is_over-clause-answer : goal.returns-then-is_over-clause-answer
returns-then-is_over-clause-answer c = too_long c.loop-named.invariant c.loop-named-test.true (eqb-true _ _ (sym c.is_over.ensures ∙ c.if-is_over.true))

pub returns-in_err-turn-clause-answer : goal.returns-in_err-turn-clause-answer
returns-in_err-turn-clause-answer c =
    let z = eqb-false _ _ (sym c.is_over.ensures ∙ c.if-is_over.false) in
    let p = err_from_is_err_and c.from_residual.result c.from_residual.ensures.1 in
    rw (p.1, p.2) (scanning_bad c.loop-named.invariant c.loop-named-test.true (omega arith) c.in_err-turn.ensures)

pub loop-named-preserved-in-None : goal.loop-named-preserved-in-None
loop-named-preserved-in-None c =
    let z = eqb-false _ _ (sym c.is_over.ensures ∙ c.if-is_over.false) in
    rw c.add-left.ensures (scanning_up c.loop-named.invariant c.loop-named-test.true (omega arith) (rw c.in-None.is at c.in_ok-turn.ensures))

pub scan_node-requires : goal.scan_node-requires
scan_node-requires c =
    let z = eqb-false _ _ (sym c.is_over.ensures ∙ c.if-is_over.false) in
    let q = rw c.in-Some.is at c.in_ok-turn.ensures in
    record { n_lt_pool = narrow c.loop-named.invariant.walking (omega arith) q.tells }

pub returns-in_err-more-in-Some-clause-answer : goal.returns-in_err-more-in-Some-clause-answer
returns-in_err-more-in-Some-clause-answer c =
    let z = eqb-false _ _ (sym c.is_over.ensures ∙ c.if-is_over.false) in
    let p = err_from_is_err_and c.from_residual-in_err-more-in-Some.result c.from_residual-in_err-more-in-Some.ensures.1 in
    rw (p.1, p.2) (scanning_stop c.loop-named.invariant c.loop-named-test.true (omega arith) _ (rw c.in-Some.is at c.in_ok-turn.ensures) (refusal c.in_err-more-in-Some.field-0.0) c.in_err-more-in-Some.ensures)

pub overflow_sub-used : goal.overflow_sub-used
overflow_sub-used c =
    let z = eqb-false _ _ (sym c.is_over.ensures ∙ c.if-is_over.false) in
    scanning_on c.loop-named.invariant c.loop-named-test.true (omega arith) _ (rw c.in-Some.is at c.in_ok-turn.ensures) _ _ c.in_ok-more-in-Some.ensures

pub loop-named-preserved : goal.loop-named-preserved
loop-named-preserved c =
    let z = eqb-false _ _ (sym c.is_over.ensures ∙ c.if-is_over.false) in
    scanning_down c.loop-named.invariant c.loop-named-test.true (omega arith) _ (rw c.in-Some.is at c.in_ok-turn.ensures) _ _ c.in_ok-more-in-Some.ensures

pub returns-in_err-entries-clause-answer : goal.returns-in_err-entries-clause-answer
returns-in_err-entries-clause-answer c =
    let p = err_from_is_err_and c.from_residual-in_err-entries.result c.from_residual-in_err-entries.ensures.1 in
    rw (p.1, p.2) (c.in_err-entries.ensures.answer ∙ sym (used c.loop-named.invariant c.loop-named-test.false))

pub returns : goal.returns
unfolding Ending EndsAt
returns c = record { answer = c.in_ok-entries.ensures.answer ∙ sym (used c.loop-named.invariant c.loop-named-test.false); edge = used-ending c.loop-named.invariant c.loop-named-test.false c.in_ok-entries.ensures.ends }
