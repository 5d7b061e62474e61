use mathlib.Core.Path.{sym, ◌∙◌}
use Rattle.tree_right_edge.proofs.Edges.{edged_empty}
use Rattle.tree_right_edge.proofs.right_edge.Goals as goal

pub returns-then-is_empty_root : goal.returns-then-is_empty_root
returns-then-is_empty_root c = edged_empty _ _ _ _ _ c.rooted.ensures c.requires.root_lt_pool c.args.s.fits.cap-low (sym c.is_empty_root.ensures ∙ c.if-is_empty_root.true)
