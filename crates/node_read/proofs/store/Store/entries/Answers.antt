use native.Mathlib.Omega.{arith}
use mathlib.Core.Path.{ap, ◌∙◌}
use Rattle.model.specs.Words.{word_place}
use Rattle.model.proofs.Words.{small}
use Rattle.node_read.specs.Layout.{shape_of}
use Rattle.model.proofs.Parts.{pairs_inside}
use Rattle.node_read.proofs.store.Store.entries.Goals as goal

pub overflow_add-end : goal.overflow_add-end
overflow_add-end c =
    let a = c.args in
    let at = c.place-at.ensures ∙ ap (word_place (shape_of a.self.layout) a.n.0) c.row_place.ensures in
    omega (arith, at, pairs_inside _ _ _ a.self.fits a.n.0 a.k c.requires.0 c.requires.1, small _ _ _ a.self.fits)

pub offset_bounds-self-at : goal.offset_bounds-self-at
offset_bounds-self-at c =
    let a = c.args in
    let at = c.place-at.ensures ∙ ap (word_place (shape_of a.self.layout) a.n.0) c.row_place.ensures in
    omega (arith, at, pairs_inside _ _ _ a.self.fits a.n.0 a.k c.requires.0 c.requires.1, small _ _ _ a.self.fits)

pub slice_bounds-result-end : goal.slice_bounds-result-end
slice_bounds-result-end c =
    let a = c.args in
    let at = c.place-at.ensures ∙ ap (word_place (shape_of a.self.layout) a.n.0) c.row_place.ensures in
    omega (arith, at, pairs_inside _ _ _ a.self.fits a.n.0 a.k c.requires.0 c.requires.1)
