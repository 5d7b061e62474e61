use mathlib.Core.Bool.{not}
use mathlib.Core.Path.{◌∙◌, ap}
use Rattle.std.proofs.Common.{rules}
use Rattle.node_chain.proofs.Links.{occ_any}
use Rattle.node_chain.proofs.holds.Goals as goal

pub returns : goal.returns
returns c = ap not c.contains.ensures.value ∙ occ_any c.args.n.0 c.args.nodes c.args.k (search rules)
