use mathlib.Core.Path.{◌∙◌, ap, sym}
use native.Mathlib.Omega.{arith}
use Rattle.model.specs.Lookup.{found_in}
use Rattle.model.specs.Reading.{to_row}
use Rattle.model.specs.declared.node.RowPageIndexNodeHeader.{RowPageIndexNodeHeader}
use Rattle.model.proofs.Order.{lt_fails}
use Rattle.node_read.specs.Layout.{shape_of}
use Rattle.tree_path.specs.Reached.{reached_of}
use Rattle.call_find.proofs.Reach.{is_leaf, inside}
use Rattle.call_find.proofs.find_in_tree.Goals as goal

pub find_in_leaf-requires : goal.find_in_leaf-requires
find_in_leaf-requires c =
    let a = c.args in
    record { leaf = is_leaf (to_row (shape_of a.s.layout) a.s.words.now a.row.0) (shape_of a.s.layout) a.s.layout.pool a.s.words.now _ _ a.root.0 c.requires.root_lt_pool (sym c.find_leaf.ensures ∙ ap reached_of c.in_ok-reached.was) }

pub returns : goal.returns
returns c =
    let a = c.args in
    let above = lt_fails a.row.0 c.header-h.result.start_row_id.0 (sym c.lt.ensures ∙ c.if-lt.false) in
    c.find_in_leaf.ensures _
    ∙ sym (inside (shape_of a.s.layout) a.s.layout.pool a.s.words.now a.root.0 a.row.0 (omega (arith, above, ap (λ (h : RowPageIndexNodeHeader). h.start_row_id.0) c.header-h.ensures)) ∙ ap (found_in (shape_of a.s.layout) a.s.words.now a.row.0) (sym c.find_leaf.ensures ∙ ap reached_of c.in_ok-reached.was))
