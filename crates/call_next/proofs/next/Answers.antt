use mathlib.Core.Path.{◌∙◌, ap}
use Rattle.std.specs.Prelude.{Option, Result, Ok}
use Rattle.model.specs.declared.answer.Refusal.{Refusal}
use Rattle.next_step.specs.declared.LeafStep.{LeafStep}
use Rattle.call_next.proofs.next.Goals as goal

pub copy_out-requires : goal.copy_out-requires
copy_out-requires c = c.step.ensures.given c.in-Some.step (c.in_ok-step.was ∙ ap (λ (o : Option LeafStep). Ok o) c.in-Some.is)
