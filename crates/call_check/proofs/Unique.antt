-- The contract of full_check decides its answer.
use Prim.Native.Nat.{ℕ}
use mathlib.Core.List.{List}
use mathlib.Core.Path.{◌≡◌, sym, ◌∙◌}
use Rattle.model.specs.Words.{lent}
use Rattle.model.specs.Refusals.{checked_answer}
use Rattle.model.specs.FullCheck.{full_check}
use Rattle.std.specs.Prelude.{Result}
use Rattle.model.specs.declared.answer.Refusal.{Refusal}
use Rattle.model.specs.declared.answer.WellFormed.{WellFormed}
use Rattle.model.proofs.Answers.{checked-one}

pub check_unique : (w : List ℕ) (a b : Result WellFormed Refusal) → checked_answer a ≡ full_check lent w → checked_answer b ≡ full_check lent w → a ≡ b
check_unique w a b p q = checked-one a b (p ∙ sym q)
