use mathlib.Core.Path.{sym, ap, ◌∙◌}
use Rattle.std.proofs.lemmas.Result.{err_from_is_err_and}
use Rattle.model.specs.Refusals.{Outcome}
use Rattle.call_append.proofs.FromHeader.{insert_refused, insert_leaf, open_fits, open_chain}
use Rattle.call_append.proofs.insert_row_page.Goals as goal

pub returns-in_err-h : goal.returns-in_err-h
returns-in_err-h c =
    let a = c.args in
    let p = err_from_is_err_and c.from_residual.result c.from_residual.ensures.1 in
    let q = insert_refused a.s.now a.count a.page.0 _ (sym c.in_err-h.ensures) in
    record { answer = rw (p.1, p.2) (sym (ap (λ (o : Outcome). o.answer) q)); words = sym (ap (λ (o : Outcome). o.words) q) }

pub invariant_of-store : goal.invariant_of-store
invariant_of-store c = record { fits = (open_fits c.args.s.now _ (sym c.in_ok-h.ensures)).0 }

pub right_edge-requires : goal.right_edge-requires
right_edge-requires c = record { root_lt_pool = (open_fits c.args.s.now _ (sym c.in_ok-h.ensures)).1 }

pub insert_after-requires : goal.insert_after-requires
insert_after-requires c =
    let a = c.args in
    let e = sym c.in_ok-h.ensures in
    let f = open_fits a.s.now _ e in
    let g = open_chain a.s.now _ e in
    let r = c.in_ok-edge.ensures.whole in
    record { fits = f.0; root_lt_pool = (f.1, g.0, g.1); sound_edge = r.ready; free_value = r.room }

pub returns : goal.returns
returns c =
    let a = c.args in
    let q = insert_leaf a.s.now a.count a.page.0 _ (sym c.in_ok-h.ensures) _ _ (sym c.in_ok-edge.ensures.answer) in
    record { answer = c.insert_after.ensures.answer ∙ sym (ap (λ (o : Outcome). o.answer) q); words = c.insert_after.ensures.words ∙ sym (ap (λ (o : Outcome). o.words) q) }
