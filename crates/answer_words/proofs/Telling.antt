-- The numbers of an answer tell it.
use Prim.Native.Nat.{ℕ}
use mathlib.Core.List.{List}
use mathlib.Core.Path.{◌≡◌, ap, subst, ◌∙◌}
use Rattle.model.specs.Refusals.{Answer}
use Rattle.answer_numbers.specs.Numbers.{answer_words, words_of, Encodes}
use Rattle.answer_numbers.specs.declared.Numbers.{Numbers}
use Rattle.answer_words.specs.Told.{Tells}

pub told : {n : Numbers} {a b : Answer} {o o₁ : List ℕ} {r : ℕ} → Encodes n a → a ≡ b → Tells o (words_of n) o₁ r → Tells o (answer_words b) o₁ r
told {o = o} {o₁ = o₁} {r = r} e p t = subst (λ (l : List ℕ). Tells o l o₁ r) (e.words ∙ ap answer_words p) t
