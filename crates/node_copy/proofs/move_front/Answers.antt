use native.Mathlib.Omega.{arith}
use Prim.Native.Nat.{◌+◌}
use mathlib.Core.Path.{ap, ◌∙◌}
use Rattle.model.specs.Words.{word_place}
use Rattle.model.proofs.Words.{small}
use Rattle.model.proofs.Parts.{pairs_inside}
use Rattle.node_read.specs.Layout.{shape_of}
use Rattle.node_copy.proofs.move_front.Goals as goal

pub overflow_add-at : goal.overflow_add-at
overflow_add-at c =
    let a = c.args in
    let first = c.place-first.ensures ∙ ap (word_place (shape_of a.s.now.layout) a.n.0) c.row_place.ensures in
    omega (arith, first, pairs_inside _ _ _ a.s.now.fits a.n.0 a.k c.requires.n_lt_pool.0 (omega arith), small _ _ _ a.s.now.fits)

pub overflow_add-at-2 : goal.overflow_add-at-2
overflow_add-at-2 c =
    let a = c.args in
    let first = c.place-first.ensures ∙ ap (word_place (shape_of a.s.now.layout) a.n.0) c.row_place.ensures in
    omega (arith, first, pairs_inside _ _ _ a.s.now.fits a.n.0 (a.k + a.m) c.requires.n_lt_pool.0 (omega arith), small _ _ _ a.s.now.fits)

pub copy_within-requires-clause-in_bounds : goal.copy_within-requires-clause-in_bounds
copy_within-requires-clause-in_bounds c =
    let a = c.args in
    let first = c.place-first.ensures ∙ ap (word_place (shape_of a.s.now.layout) a.n.0) c.row_place.ensures in
    omega (arith, first, pairs_inside _ _ _ a.s.now.fits a.n.0 (a.k + a.m) c.requires.n_lt_pool.0 (omega arith))

pub copy_within-requires-clause-dest_in_bounds : goal.copy_within-requires-clause-dest_in_bounds
copy_within-requires-clause-dest_in_bounds c =
    let a = c.args in
    let first = c.place-first.ensures ∙ ap (word_place (shape_of a.s.now.layout) a.n.0) c.row_place.ensures in
    omega (arith, first, pairs_inside _ _ _ a.s.now.fits a.n.0 a.m c.requires.n_lt_pool.0 (omega arith))
