use Prim.Native.Nat.{◌≤◌}
use Rattle.script_both.proofs.Outputs.compare_prefixes.Given as goal

abbrev pub invariant-loop-k : goal.invariant-loop-k
invariant-loop-k l = (l.bad ≤ l.k) × (l.different ≤ l.k)
