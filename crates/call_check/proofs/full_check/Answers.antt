use mathlib.Core.Path.{sym, ◌∙◌}
use Rattle.std.proofs.lemmas.Result.{err_from_is_err_and}
use Rattle.node_read.proofs.Opened.{is_open}
use Rattle.call_check.proofs.Passes.{first-bad, second-bad}
use Rattle.call_check.proofs.full_check.Goals as goal

pub returns-in_err-counts : goal.returns-in_err-counts
returns-in_err-counts c =
    let p = err_from_is_err_and c.from_residual-in_err-counts.result c.from_residual-in_err-counts.ensures.1 in
    rw (p.1, p.2) (sym (first-bad _ _ (is_open _ _ (sym c.«open».ensures ∙ c.in_ok-h.was)) _ (sym c.survey_both-surveys.ensures.nodes ∙ c.in_err-counts.was)))

pub returns-in_err-surveys : goal.returns-in_err-surveys
returns-in_err-surveys c =
    let p = err_from_is_err_and c.from_residual-in_err-surveys.result c.from_residual-in_err-surveys.ensures.1 in
    rw (p.1, p.2) (sym (second-bad _ _ (is_open _ _ (sym c.«open».ensures ∙ c.in_ok-h.was)) _ (sym c.survey_both-surveys.ensures.nodes ∙ c.in_ok-counts.was) _ (sym c.survey_both-surveys.ensures.ends ∙ c.in_err-surveys.was)))
