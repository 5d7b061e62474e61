use Prim.Native.Nat.{◌+◌}
use mathlib.Core.Path.{◌≡◌}
use lib.ListN.{length}
use Rattle.script_text.specs.Lines.{Put}
use Rattle.script_text.specs.declared.Lines.{Lines}
use Rattle.script_calls.specs.Calls.{walk_lines}
use Rattle.script_walk.proofs.Bound.{left}
use Rattle.script_walk.proofs.walk_on.Given as goal

-- the lines from here on make the lines of the whole walk
abbrev pub invariant-leaves : goal.invariant-leaves
invariant-leaves l = record {
  list : length l.list ≡ 4096;
  rest : (l₂ : Lines) → Put l.out (walk_lines l.s (left l.s l.c) l.c) l₂ → Put l.initial.out (walk_lines l.s (length l.s + 1) l.initial.c) l₂;
}

abbrev pub decreases-leaves : goal.decreases-leaves
decreases-leaves l = left l.s l.c
