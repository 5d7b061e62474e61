-- What a script's create does, however many words were in use.
use Rattle.std.specs.Prelude.{ℕ, List, Option, ◌≡◌, length, take}
use Rattle.std.specs.Option.{unwrap_or}
use Rattle.model.specs.Words.{lent}
use Rattle.model.specs.Refusals.{Outcome}
use Rattle.model.specs.Create.{create}
use Rattle.script_text.specs.Lines.{Put}
use Rattle.script_text.specs.declared.Lines.{Lines}
use Rattle.answer_line.specs.Answers.{call_line}
use Rattle.answer_line.specs.Names.{create_name}
use Rattle.script_calls.specs.Calls.{create_length, if_accepted, overlaid}

-- "a create gets the length it computes, or all of them where that is more or C or P is out of range": of words w it gets the
-- first so many, and later calls get r words, or as many as before where there is no r
pub record Creates (C P s : ℕ) (w : List ℕ) (l : Lines) (w₁ : List ℕ) (l₁ : Lines) (r : Option ℕ) : Type 0 where
  pub words : w₁ ≡ overlaid (create_length (length w) C P) (create lent (take (create_length (length w) C P) w) C P s).words w
  pub used : (u : ℕ) → unwrap_or r u ≡ if_accepted (create lent (take (create_length (length w) C P) w) C P s).answer (create_length (length w) C P) u
  pub puts : Put l (call_line create_name (create lent (take (create_length (length w) C P) w) C P s).answer) l₁
