-- The contract of new decides its answer and the words it leaves.
use Prim.Native.Nat.{ℕ}
use mathlib.Core.List.{List}
use mathlib.Core.Path.{◌≡◌, sym, ◌∙◌}
use Rattle.model.specs.Words.{lent}
use Rattle.model.specs.Refusals.{created}
use Rattle.model.specs.Create.{create}
use Rattle.model.specs.declared.answer.Refusal.{Refusal}
use Rattle.std.specs.Prelude.{Result}
use Rattle.model.proofs.Answers.{created-one}

-- an answer and words that the contract allows
pub record Allowed (w : List ℕ) (capacity nodes start : ℕ) (a : Result Unit Refusal) (v : List ℕ) : Type 0 where
  pub answer : created a ≡ (create lent w capacity nodes start).answer
  pub words : v ≡ (create lent w capacity nodes start).words

pub create_unique : (w : List ℕ) (capacity nodes start : ℕ) (a b : Result Unit Refusal) (v u : List ℕ) → Allowed w capacity nodes start a v → Allowed w capacity nodes start b u → (a ≡ b) × (v ≡ u)
create_unique w capacity nodes start a b v u p q = (created-one a b (p.answer ∙ sym q.answer), p.words ∙ sym q.words)
