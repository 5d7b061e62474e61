-- The contracts of destroy and destroy_empty decide their answers, the words and the list.
use Prim.Native.Nat.{ℕ}
use mathlib.Core.List.{List}
use mathlib.Core.Path.{◌≡◌, sym, ◌∙◌}
use Rattle.model.specs.Words.{lent}
use Rattle.model.specs.Refusals.{destroyed}
use Rattle.model.specs.Release.{destroy, destroy_empty}
use Rattle.std.specs.Prelude.{Result}
use Rattle.model.specs.declared.answer.Refusal.{Refusal}
use Rattle.model.specs.declared.answer.Released.{Released}
use Rattle.model.proofs.Answers.{destroyed-one}

-- an answer, words and a list that the contract allows
pub record Allowed (w : List ℕ) (pivot : ℕ) (pages : List ℕ) (a : Result Released Refusal) (v l : List ℕ) : Type 0 where
  pub answer : destroyed a ≡ (destroy lent w pivot pages).answer
  pub words : v ≡ (destroy lent w pivot pages).words
  pub list : l ≡ (destroy lent w pivot pages).list

pub destroy_unique : (w : List ℕ) (pivot : ℕ) (pages : List ℕ) (a b : Result Released Refusal) (v u l m : List ℕ) → Allowed w pivot pages a v l → Allowed w pivot pages b u m
    → (a ≡ b) × (v ≡ u) × (l ≡ m)
destroy_unique w pivot pages a b v u l m p q = (destroyed-one a b (p.answer ∙ sym q.answer), p.words ∙ sym q.words, p.list ∙ sym q.list)

pub record AllowedEmpty (w : List ℕ) (a : Result Released Refusal) (v : List ℕ) : Type 0 where
  pub answer : destroyed a ≡ (destroy_empty lent w).answer
  pub words : v ≡ (destroy_empty lent w).words

pub empty_unique : (w : List ℕ) (a b : Result Released Refusal) (v u : List ℕ) → AllowedEmpty w a v → AllowedEmpty w b u → (a ≡ b) × (v ≡ u)
empty_unique w a b v u p q = (destroyed-one a b (p.answer ∙ sym q.answer), p.words ∙ sym q.words)
