-- A turn, from what its function does.
use Prim.Native.Nat.{ℕ, ◌+◌, ◌≤◌, ◌<◌}
use mathlib.Core.Path.{◌≡◌, refl}
use mathlib.Core.List.{List, [], ◌∷◌}
use mathlib.Core.Bool.{false}
use native.Mathlib.Omega.{arith}
use lib.ListN.{length}
use Rattle.std.specs.Prelude.{Result, is_ok}
use Rattle.script_text.specs.declared.Lines.{Lines}
use Rattle.script_records.specs.Records.{first}
use Rattle.script_calls.specs.Calls.{perform}
use Rattle.script_calls.specs.Steps.{Does, memory_of}
use Rattle.script_calls.specs.declared.BadRecord.{BadRecord}
use Rattle.script_calls.specs.declared.memory.Memory as M
use Rattle.script_step.specs.Script.{turn}
use Rattle.script_step.proofs.Stepping.{turn-some, turn-short}

module _ {m m₁ : M.Memory} {l l₁ : Lines} (bs : List ℕ) where
  pub next : 0 < length bs → Does (perform (memory_of m) (first bs)) m l m₁ l₁ → Does (turn (memory_of m) bs) m l m₁ l₁
  next h d = rw (turn-some (memory_of m) bs h) d

  pub few : length m.words.now ≤ 4096 → Does (turn (memory_of m) bs) m l m₁ l₁ → l₁.at ≤ l.at + 65536
  few h d = omega (arith, d.puts.puts.place, turn-short (memory_of m) bs h)

module _ (m : M.Memory) (bs : List ℕ) where
  pub ends : length bs ≡ 0 → false ≡ (turn (memory_of m) bs).goes
  unfolding turn
  ends h = elim bs as (λ xs. length xs ≡ 0 → false ≡ (turn (memory_of m) xs).goes) [ [] ↦ λ _. refl | x ∷ xs ↦ λ e. absurd (omega arith) ] h

  module _ (r : Result Unit BadRecord) (h : 0 < length bs) (e : is_ok r ≡ (perform (memory_of m) (first bs)).goes) where
    pub goes : is_ok r ≡ (turn (memory_of m) bs).goes
    goes = rw (turn-some (memory_of m) bs h) e
