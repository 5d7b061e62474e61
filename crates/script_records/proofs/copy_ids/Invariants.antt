use mathlib.Core.Path.{◌≡◌}
use lib.ListN.{take, drop}
use Rattle.script_records.specs.Read.{body_words}
use Rattle.script_records.proofs.copy_ids.Given as goal

abbrev pub invariant-loop-i : goal.invariant-loop-i
invariant-loop-i l = take l.i l.ids ≡ take l.i (drop 2 (body_words l.body))
