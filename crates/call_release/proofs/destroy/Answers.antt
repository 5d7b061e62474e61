use mathlib.Core.Path.{sym, ap, ◌∙◌}
use Rattle.std.proofs.lemmas.Result.{err_from_is_err_and}
use Rattle.model.specs.Release.{Released}
use Rattle.node_read.proofs.Opened.{is_open}
use Rattle.call_release.proofs.Deciding.{bad-node}
use Rattle.call_release.proofs.destroy.Goals as goal

pub returns-in_err-counts : goal.returns-in_err-counts
returns-in_err-counts c =
    let a = c.args in
    let p = err_from_is_err_and c.from_residual-in_err-counts.result c.from_residual-in_err-counts.ensures.1 in
    let e = bad-node a.s.now a.pivot.0 a.pages.now _ (is_open _ _ (sym c.«open».ensures ∙ c.in_ok-h.was)) _ (sym c.survey_tree.ensures ∙ c.in_err-counts.was) in
    record { answer = rw (p.1, p.2) (sym (ap (λ (x : Released). x.answer) e)); words = sym (ap (λ (x : Released). x.words) e); list = sym (ap (λ (x : Released). x.list) e) }
