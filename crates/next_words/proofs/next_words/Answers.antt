use mathlib.Core.Path.{◌∙◌, ap, subst}
use native.Mathlib.Omega.{arith}
use Prim.Native.Nat.{◌/◌}
use lib.ListN.{length}
use Rattle.std.specs.Prelude.{Option, None, Result, Ok, Err}
use Rattle.model.specs.declared.answer.Refusal.{Refusal}
use Rattle.next_step.specs.declared.LeafStep.{LeafStep}
use Rattle.next_step.specs.Steps.{Steps}
use Rattle.next_words.proofs.Writing.{given-words, still_words}
use Rattle.next_words.proofs.next_words.Goals as goal

abbrev Step : Type 0
Step = Result (Option LeafStep) Refusal

pub copy_words-requires : goal.copy_words-requires
copy_words-requires c =
    let p = c.step.ensures.given c.in-Ok-Some.step (c.in-Ok-Some.is ∙ ap (λ (o : Option LeafStep). let r : Step = Ok o in r) c.in-Ok-Some.field-0-is) in (p.0, omega (arith, p.1))

pub returns-in-Ok-Some : goal.returns-in-Ok-Some
returns-in-Ok-Some c =
    let a = c.args in
    let st = subst (λ (r : Step). Steps a.s.now a.cursor (length a.out.now / 2) r) (c.in-Ok-Some.is ∙ ap (λ (o : Option LeafStep). let r : Step = Ok o in r) c.in-Ok-Some.field-0-is) c.step.ensures in
    given-words a.s.now a.cursor a.out.now c.in-Ok-Some.step _ st c.copy_words.ensures

pub returns-in-Ok-None : goal.returns-in-Ok-None
returns-in-Ok-None c =
    let a = c.args in
    let st = subst (λ (r : Step). Steps a.s.now a.cursor (length a.out.now / 2) r) (c.in-Ok-None.is ∙ ap (λ (o : Option LeafStep). let r : Step = Ok o in r) c.in-Ok-None.field-0-is) c.step.ensures in
    still_words a.s.now a.cursor a.out.now (Ok None) st.is

pub returns-in-Err : goal.returns-in-Err
returns-in-Err c =
    let a = c.args in
    let st = subst (λ (r : Step). Steps a.s.now a.cursor (length a.out.now / 2) r) c.in-Err.is c.step.ensures in
    still_words a.s.now a.cursor a.out.now (Err c.in-Err.r) st.is
