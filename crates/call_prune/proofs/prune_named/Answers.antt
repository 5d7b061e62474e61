use Rattle.prune_edge.specs.Found.{Finds}
use Rattle.call_prune.proofs.prune_named.Goals as goal

pub find_edge-boundary-requires : goal.find_edge-boundary-requires
find_edge-boundary-requires c = record { given = (c.args.end.0, c.args.h.root.0, c.requires.ended) }

pub prune_edge-requires : goal.prune_edge-requires
unfolding Finds
prune_edge-requires c = (c.requires.rooted_in, c.find_edge-boundary.ensures c.args.end.0 c.args.h.root.0 c.requires.ended)
