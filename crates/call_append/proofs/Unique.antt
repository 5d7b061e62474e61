-- The contract of insert_row_page decides its answer and the words it leaves.
use Prim.Native.Nat.{ℕ}
use mathlib.Core.List.{List}
use mathlib.Core.Path.{◌≡◌, sym, ◌∙◌}
use Rattle.model.specs.Words.{lent}
use Rattle.model.specs.Refusals.{inserted}
use Rattle.model.specs.Append.{insert_row_page}
use Rattle.model.specs.declared.answer.Refusal.{Refusal}
use Rattle.model.specs.declared.answer.RowPageIndexInsert.{RowPageIndexInsert}
use Rattle.std.specs.Prelude.{Result}
use Rattle.model.proofs.Answers.{inserted-one}

-- an answer and words that the contract allows
pub record Allowed (w : List ℕ) (count page : ℕ) (a : Result RowPageIndexInsert Refusal) (v : List ℕ) : Type 0 where
  pub answer : inserted a ≡ (insert_row_page lent w count page).answer
  pub words : v ≡ (insert_row_page lent w count page).words

pub insert_unique : (w : List ℕ) (count page : ℕ) (a b : Result RowPageIndexInsert Refusal) (v u : List ℕ) → Allowed w count page a v → Allowed w count page b u → (a ≡ b) × (v ≡ u)
insert_unique w count page a b v u p q = (inserted-one a b (p.answer ∙ sym q.answer), p.words ∙ sym q.words)
