use mathlib.Core.Path.{◌∙◌, sym}
use Rattle.node_read.proofs.Opened.{is_open, opens-fits}
use Rattle.bench_host.proofs.bench_test_node.Goals as goal

pub invariant_of-store : goal.invariant_of-store
invariant_of-store c = record { fits = (opens-fits _ _ (is_open _ _ (sym c.«open».ensures ∙ c.in-Ok.is))).0 }
