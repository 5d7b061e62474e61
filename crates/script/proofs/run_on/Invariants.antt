use mathlib.Core.Path.{◌≡◌}
use lib.ListN.{length}
use Rattle.script_text.specs.Lines.{Put}
use Rattle.script_text.specs.declared.Lines.{Lines}
use Rattle.script_calls.specs.Steps.{memory_of}
use Rattle.script_step.specs.Script.{listing_from}
use Rattle.script.proofs.run_on.Given as goal

-- the lines of the records that are left make the listing
abbrev pub invariant-loop-rest : goal.invariant-loop-rest
invariant-loop-rest l = record {
  words : length l.m.words.now ≡ length l.initial.m.words.now;
  rest : (l₂ : Lines) → Put l.out (listing_from (length l.rest) (memory_of l.m) l.rest) l₂ → Put l.initial.out (listing_from (length l.script) (memory_of l.initial.m) l.script) l₂;
}

abbrev pub decreases-loop-rest : goal.decreases-loop-rest
decreases-loop-rest l = length l.rest
