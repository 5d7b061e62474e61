use mathlib.Core.Path.{refl, sym, ◌∙◌}
use Rattle.std.proofs.lemmas.Result.{err_from_is_err_and}
use Rattle.model.proofs.Order.{ne_holds, ne_fails}
use Rattle.prune_list.specs.Named.{Ending}
use Rattle.call_prune.proofs.Deciding.{at-bad, good, high, at_other, at-root, at-refused, at-entries}
use Rattle.call_prune.proofs.prune_filled.Goals as goal

pub returns-in_default : goal.returns-in_default
returns-in_default c =
    let a = c.args in
    let e = at-bad _ _ _ _ a.start.0 a.end.0 a.ids.now c.header-head.ensures c.requires.root_value (sym c.is_in_height.ensures ∙ c.if-not-is_in_height.false) (sym c.test_node.ensures ∙ c.in_default.is) in
    record { answer = rw e; words = rw e }

pub returns-then-ne : goal.returns-then-ne
returns-then-ne c =
    let a = c.args in
    let e = at_other _ _ _ _ a.start.0 a.end.0 a.ids.now c.header-head.ensures c.requires.root_value (sym c.is_in_height.ensures ∙ c.if-not-is_in_height.false) (sym c.test_node.ensures ∙ c.in-Some.is) (ne_holds _ _ (sym c.ne.ensures ∙ c.if-ne.true)) in
    record { answer = rw e; words = rw e }

pub scan_tree-requires : goal.scan_tree-requires
scan_tree-requires c =
    let a = c.args in
    let g = good _ _ _ _ a.start.0 a.end.0 a.ids.now c.header-head.ensures c.requires.root_value (sym c.is_in_height.ensures ∙ c.if-not-is_in_height.false) (sym c.test_node.ensures ∙ c.in-Some.is) in
    record { passed_root = (c.requires.in_open.inside, high _ _ _ _ a.start.0 a.end.0 a.ids.now c.header-head.ensures c.requires.root_value (sym c.is_in_height.ensures ∙ c.if-not-is_in_height.false) (sym c.test_node.ensures ∙ c.in-Some.is), g.0); first_value = g.1; ids_nonzero = c.requires.ids_nonzero }

pub returns-in_err-prefix : goal.returns-in_err-prefix
returns-in_err-prefix c =
    let a = c.args in
    let p = err_from_is_err_and c.from_residual.result c.from_residual.ensures.1 in
    let e = at-refused _ _ _ _ a.start.0 a.end.0 a.ids.now c.header-head.ensures c.requires.root_value (sym c.is_in_height.ensures ∙ c.if-not-is_in_height.false) (sym c.test_node.ensures ∙ c.in-Some.is) (ne_fails _ _ (sym c.ne.ensures ∙ c.if-ne.false)) c.in_err-prefix.ensures.answer c.in_err-prefix.field-0.0 refl in
    record { answer = rw (p.1, p.2, e); words = rw e }

pub prune_named-requires : goal.prune_named-requires
unfolding Ending
prune_named-requires c =
    let a = c.args in
    record { rooted_in = at-root _ _ _ _ a.start.0 a.end.0 a.ids.now c.header-head.ensures c.requires.root_value (sym c.is_in_height.ensures ∙ c.if-not-is_in_height.false) (sym c.test_node.ensures ∙ c.in-Some.is) _ c.requires.in_open; ended = c.in_ok-prefix.ensures.edge }

pub returns : goal.returns
returns c =
    let a = c.args in
    let e = at-entries _ _ _ _ a.start.0 a.end.0 a.ids.now c.header-head.ensures c.requires.root_value (sym c.is_in_height.ensures ∙ c.if-not-is_in_height.false) (sym c.test_node.ensures ∙ c.in-Some.is) (ne_fails _ _ (sym c.ne.ensures ∙ c.if-ne.false)) c.in_ok-prefix.ensures.answer c.in_ok-prefix.prefix refl in
    record { answer = rw e c.prune_named.ensures.answer; words = rw e c.prune_named.ensures.words }
