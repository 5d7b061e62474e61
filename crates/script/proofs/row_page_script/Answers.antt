use borrow.Author.Rules.{rules}
use mathlib.Core.Path.{◌∙◌}
use Rattle.script.proofs.Fitting.{fits}
use Rattle.script_step.proofs.Stepping.{from-zeros}
use Rattle.script.proofs.row_page_script.Goals as goal

pub returns : goal.returns
returns c =
    let both = fits (rw (from-zeros 4096 c.args.script.now) at c.run_on.ensures.puts) in
    record { bytes = (search rules) ∙ both.0; length = both.1 }
