-- The line of the answer that numbers tell: of a refusal, of none, of values.
use Prim.Native.Nat.{ℕ, zero, suc}
use mathlib.Core.Path.{◌≡◌, refl}
use mathlib.Core.List.{List, [], ◌∷◌}
use lib.ListN.{take, length, get_or}
use borrow.Author.Tests.{ne_eqb}
use Rattle.model.specs.Refusals.{result}
use Rattle.answer_numbers.specs.Numbers.{five_of, answer_of}
use Rattle.answer_numbers.specs.declared.Numbers.{Numbers}
use Rattle.script_text.specs.Lines.{line}
use Rattle.answer_line.specs.Answers.{answer_line}
use Rattle.answer_line.specs.Names.{no_name}

module _ (given none : List ℕ) (n : Numbers) where
  some : (k : ℕ) (vs : List ℕ) → (k ≡ 0 → ⊥) → length vs ≡ 5 → answer_line given none (result (take k vs)) ≡ line given (take k vs)
  unfolding answer_line
  some zero vs h e = absurd (h refl)
  some (suc k) [] h e = cc
  some (suc k) (v ∷ vs) h e = refl

  pub of_refusal : (n.number ≡ 0 → ⊥) → answer_line given none (answer_of n) ≡ line no_name (n.number ∷ get_or n.values 0 0 ∷ [])
  unfolding answer_of answer_line
  of_refusal h = rw (ne_eqb n.number 0 h)

  pub of_none : n.number ≡ 0 → n.count ≡ 0 → answer_line given none (answer_of n) ≡ line none []
  unfolding answer_of answer_line
  of_none h e = rw (h, e)

  pub of_values : n.number ≡ 0 → (n.count ≡ 0 → ⊥) → length n.values ≡ 5 → answer_line given none (answer_of n) ≡ line given (take n.count (five_of n))
  unfolding answer_of
  of_values h e l = rw h (some n.count n.values e l)
