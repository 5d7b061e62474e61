use mathlib.Core.Path.{◌∙◌, sym}
use Rattle.node_read.proofs.Opened.{is_open}
use Rattle.call_prune.proofs.Deciding.{in_store}
use Rattle.call_prune.proofs.prune_checkpoint_prefix.Goals as goal

pub prune_open-requires-clause-in_open : goal.prune_open-requires-clause-in_open
prune_open-requires-clause-in_open c = in_store c.args.s.now _ (is_open _ _ (sym c.«open».ensures ∙ c.in_ok-h.was))
