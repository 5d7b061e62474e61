-- The contract of prune_checkpoint_prefix decides its answer and the words it leaves.
use Prim.Native.Nat.{ℕ}
use mathlib.Core.List.{List}
use mathlib.Core.Path.{◌≡◌, sym, ◌∙◌}
use Rattle.model.specs.Words.{lent}
use Rattle.model.specs.Refusals.{pruned}
use Rattle.model.specs.Prune.{prune_checkpoint_prefix}
use Rattle.model.specs.declared.answer.Refusal.{Refusal}
use Rattle.model.specs.declared.answer.RowPagePrefixPrune.{RowPagePrefixPrune}
use Rattle.std.specs.Prelude.{Result}
use Rattle.model.proofs.Answers.{pruned-one}

-- an answer and words that the contract allows
pub record Allowed (w : List ℕ) (start end : ℕ) (ids : List ℕ) (a : Result RowPagePrefixPrune Refusal) (v : List ℕ) : Type 0 where
  pub answer : pruned a ≡ (prune_checkpoint_prefix lent w start end ids).answer
  pub words : v ≡ (prune_checkpoint_prefix lent w start end ids).words

pub prune_unique : (w : List ℕ) (start end : ℕ) (ids : List ℕ) (a b : Result RowPagePrefixPrune Refusal) (v u : List ℕ) → Allowed w start end ids a v → Allowed w start end ids b u → (a ≡ b) × (v ≡ u)
prune_unique w start end ids a b v u p q = (pruned-one a b (p.answer ∙ sym q.answer), p.words ∙ sym q.words)
