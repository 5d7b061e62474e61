-- What the functions of src/ do, in the words of specs/Calls.
use Rattle.std.specs.Prelude.{ℕ, List, ◌≡◌, length}
use Rattle.script_text.specs.Lines.{Put}
use Rattle.script_text.specs.declared.Lines.{Lines}
use Rattle.script_calls.specs.Calls as C
use Rattle.script_calls.specs.Calls.{Performed}
use Rattle.script_calls.specs.declared.memory.Memory as M

-- the words w, of which u are in use
abbrev pub memory : List ℕ → ℕ → C.Memory
memory w u = record { words = w; used = u }

-- the memory that a program has lent
abbrev pub memory_of : M.Memory → C.Memory
memory_of m = memory m.words.now m.used

-- What a record does to a memory and to the lines: the same words, as many, and the same bytes are lent; the memory is the
-- one after it, and its lines are put
pub record Does (p : Performed) (m : M.Memory) (l : Lines) (m₁ : M.Memory) (l₁ : Lines) : Type 0 where
  pub lent : m₁.words.ghost_name ≡ m.words.ghost_name
  pub many : length m₁.words.now ≡ length m.words.now
  pub words : m₁.words.now ≡ p.memory.words
  pub used : m₁.used ≡ p.memory.used
  pub puts : Put l p.lines l₁
