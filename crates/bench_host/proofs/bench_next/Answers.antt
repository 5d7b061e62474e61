use mathlib.Core.Path.{◌∙◌, ap}
use Rattle.model.specs.LeafWalk.{seek}
use Rattle.next_words.proofs.Equation.{words_are}
use Rattle.bench_host.specs.Numbers.{end_number}
use Rattle.bench_host.proofs.bench_next.Goals as goal

pub returns : goal.returns
returns c =
    let a = c.args in
    let s = words_are a.words.now (seek a.row) a.list.now _ _ c.next_words-step.ensures in
    record { number = c.end_of.ensures ∙ ap end_number s.0; list = s.2 }
