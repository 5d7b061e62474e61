use mathlib.Core.Bool.{true, false}
use mathlib.Core.Path.{◌≡◌, sym, ap, ◌∙◌}
use lib.Dec.{leb}
use Rattle.node_read.specs.Layout.{shape_of}
use Rattle.model.specs.Words.{height, max_height}
use Rattle.model.specs.Tree.{Open}
use Rattle.model.specs.Reading.{descend, to_row}
use Rattle.model.specs.declared.node.RowPageIndexNodeHeader.{RowPageIndexNodeHeader}
use Rattle.tree_path.proofs.Down.{root_empty, root-high, root-path}
use Rattle.tree_path.proofs.path.find_leaf.Goals as goal

pub returns-then-is_empty_root : goal.returns-then-is_empty_root
returns-then-is_empty_root c = let a = c.args in sym (root_empty (to_row (shape_of a.s.layout) a.s.words.now a.sought.0) (shape_of a.s.layout) a.s.layout.pool a.s.words.now a.root.0 (sym c.is_empty_root.ensures ∙ c.if-is_empty_root.true))

pub returns-then-not-is_in_height : goal.returns-then-not-is_in_height
returns-then-not-is_in_height c =
    let a = c.args in
    let lo : leb (height (shape_of a.s.layout) a.s.words.now a.root.0) max_height ≡ false = sym (ap (λ (h : RowPageIndexNodeHeader). leb h.height max_height) c.header-h.ensures) ∙ sym c.is_in_height.ensures ∙ c.if-not-is_in_height.true in
    sym (root-high (to_row (shape_of a.s.layout) a.s.words.now a.sought.0) (shape_of a.s.layout) a.s.layout.pool a.s.words.now a.root.0 (sym c.is_empty_root.ensures ∙ c.if-is_empty_root.false) lo)

pub returns : goal.returns
returns c =
    let a = c.args in
    let hi : leb (height (shape_of a.s.layout) a.s.words.now a.root.0) max_height ≡ true = sym (ap (λ (h : RowPageIndexNodeHeader). leb h.height max_height) c.header-h.ensures) ∙ sym c.is_in_height.ensures ∙ c.if-not-is_in_height.false in
    c.find_below.ensures
    ∙ ap (λ (h : RowPageIndexNodeHeader). descend (to_row (shape_of a.s.layout) a.s.words.now a.sought.0) (shape_of a.s.layout) a.s.layout.pool a.s.words.now h.height a.root.0 a.root.0 h.start_row_id.0 Open) c.header-h.ensures
    ∙ sym (root-path (to_row (shape_of a.s.layout) a.s.words.now a.sought.0) (shape_of a.s.layout) a.s.layout.pool a.s.words.now a.root.0 (sym c.is_empty_root.ensures ∙ c.if-is_empty_root.false) hi)
