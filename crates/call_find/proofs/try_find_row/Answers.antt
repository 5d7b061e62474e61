use mathlib.Core.Path.{◌∙◌, sym}
use Rattle.node_read.proofs.Opened.{is_open, opens-fits}
use Rattle.call_find.proofs.try_find_row.Goals as goal

pub invariant_of-store : goal.invariant_of-store
invariant_of-store c =
    let w = c.args.s.now in
    record { fits = (opens-fits w _ (is_open w _ (sym c.«open».ensures ∙ c.in_ok-h.was))).0 }

pub find_in_tree-requires : goal.find_in_tree-requires
find_in_tree-requires c =
    let w = c.args.s.now in
    record { root_lt_pool = (opens-fits w _ (is_open w _ (sym c.«open».ensures ∙ c.in_ok-h.was))).1 }
