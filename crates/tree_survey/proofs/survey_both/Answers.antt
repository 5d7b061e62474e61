use mathlib.Core.Path.{sym, ◌∙◌}
use native.Mathlib.Omega.{arith}
use Rattle.node_read.specs.Layout.{shape_of}
use Rattle.law_formed.proofs.Rooted.{empty_of}
use Rattle.tree_survey.proofs.survey_both.Goals as goal

pub count_node-requires : goal.count_node-requires
count_node-requires c =
    let a = c.args in
    let z = empty_of (shape_of a.s.layout) a.s.words.now a.root.0 (sym c.is_empty_root.ensures ∙ c.if-is_empty_root.true) in
    record { n_lt_pool = (c.requires.root_lt_pool, omega (arith, z.none)) }
