-- A refusal gives no leaf.
use mathlib.Core.Path.{◌≡◌}
use Rattle.model.specs.Refusals.{refusal}
use Rattle.model.specs.declared.answer.Refusal.{Refusal}
use Rattle.model.proofs.Answers.{is-refusal}
use Rattle.bench_host.specs.Numbers.{refused, end_number}

pub no_end : (r : Refusal) → end_number (refusal r) ≡ refused
no_end r = let i = is-refusal r in rw i.is
