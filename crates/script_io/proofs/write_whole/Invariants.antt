-- what is gone from `rest` was written
use Rattle.std.proofs.Common.{◌≡◌, ℕ, List, ◌++◌}
use Rattle.std.specs.Io.KnownBytes.{Appends}
use Rattle.script_io.proofs.write_whole.Given as goal

abbrev pub invariant-loop : goal.invariant-loop
invariant-loop g l = (done : List ℕ) × (l.buf ≡ done ++ l.rest) × Appends (g.W.Write.contents l.fn.output) (g.W.Write.contents l.output) done
