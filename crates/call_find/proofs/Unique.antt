-- The contract of try_find_row decides its answer.
use Prim.Native.Nat.{ℕ}
use mathlib.Core.List.{List}
use mathlib.Core.Path.{◌≡◌, sym, ◌∙◌}
use Rattle.model.specs.Words.{lent}
use Rattle.model.specs.Refusals.{location}
use Rattle.model.specs.Lookup.{try_find_row}
use Rattle.model.specs.declared.answer.Refusal.{Refusal}
use Rattle.model.specs.declared.id.PageID.{PageID}
use Rattle.std.specs.Prelude.{Option, Result}
use Rattle.model.proofs.Answers.{location-one}

pub find_unique : (w : List ℕ) (row : ℕ) (a b : Result (Option PageID) Refusal) → location a ≡ try_find_row lent w row → location b ≡ try_find_row lent w row → a ≡ b
find_unique w row a b p q = location-one a b (p ∙ sym q)
