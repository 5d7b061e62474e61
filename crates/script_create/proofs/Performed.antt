-- What a create does is what `perform` says of it.
use Prim.Native.Nat.{ℕ}
use mathlib.Core.Path.{◌≡◌, ◌∙◌}
use lib.ListN.{length}
use Rattle.std.specs.Prelude.{Option}
use Rattle.std.specs.Option.{unwrap_or}
use Rattle.script_text.specs.declared.Lines.{Lines}
use Rattle.script_records.specs.Records.{Create}
use Rattle.script_calls.specs.Calls.{perform}
use Rattle.script_calls.specs.Steps.{memory_of, Does}
use Rattle.script_calls.specs.declared.memory.Memory as M
use Rattle.script_create.specs.Created.{Creates}

pub performed : (m m₁ : M.Memory) (l l₁ : Lines) (C P s : ℕ) (r : Option ℕ) → m₁.words.ghost_name ≡ m.words.ghost_name → length m₁.words.now ≡ length m.words.now
    → Creates C P s m.words.now l m₁.words.now l₁ r → m₁.used ≡ unwrap_or r m.used → Does (perform (memory_of m) (Create C P s)) m l m₁ l₁
unfolding perform
performed m m₁ l l₁ C P s r lent many g u = record { lent = lent; many = many; words = g.words; used = u ∙ g.used m.used; puts = g.puts }
