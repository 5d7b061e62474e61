-- The length after a create that was done, and after one that was refused.
use Prim.Native.Nat.{ℕ}
use mathlib.Core.Path.{◌≡◌, refl}
use mathlib.Core.Bool.{true, false}
use Rattle.std.specs.Prelude.{Result, Ok, Err, is_ok}
use Rattle.model.specs.Refusals.{created}
use Rattle.model.specs.declared.answer.Refusal.{Refusal}
use Rattle.model.proofs.Answers.{is-refusal}
use Rattle.script_calls.specs.Calls.{if_accepted}

pub done : (r : Result Unit Refusal) (n m : ℕ) → is_ok r ≡ true → n ≡ if_accepted (created r) n m
unfolding if_accepted
done (Ok u) n m h = refl
done (Err r) n m h = cc

pub not_done : (r : Result Unit Refusal) (n m : ℕ) → is_ok r ≡ false → m ≡ if_accepted (created r) n m
unfolding if_accepted
not_done (Ok u) n m h = cc
not_done (Err r) n m h = rw (is-refusal r).is
