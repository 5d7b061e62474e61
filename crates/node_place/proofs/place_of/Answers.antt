use native.Mathlib.Omega.{arith}
use Rattle.node_read.specs.Layout.{shape_of}
use Rattle.node_place.proofs.Places.{lies_in-all, begins}
use Rattle.node_place.proofs.place_of.Goals as goal

pub narrow-requires : goal.narrow-requires
narrow-requires c =
    let a = c.args in
    let p = c.requires in
    let lies = lies_in-all (shape_of a.s.layout) a.s.words.now a.n.0 a.q.0 a.count p.n_lt_pool.1 in
    record { n_lt_pool = (p.n_lt_pool.0, p.n_lt_pool.2, p.n_lt_pool.3); le_step = (omega arith, omega arith, omega (arith, a.s.fits.cap-high), begins (shape_of a.s.layout) a.s.words.now a.n.0 a.q.0 a.count _ _ p.n_lt_pool.1 lies); lies_in = lies }

pub narrow-part-requires : goal.narrow-part-requires
narrow-part-requires c =
    let a = c.args in
    let p = c.requires in
    let lies = lies_in-all (shape_of a.s.layout) a.s.words.now a.n.0 a.q.0 a.count p.n_lt_pool.1 in
    record { n_lt_pool = (p.n_lt_pool.0, p.n_lt_pool.2, p.n_lt_pool.3); le_step = (omega arith, omega arith, omega (arith, a.s.fits.cap-high), begins (shape_of a.s.layout) a.s.words.now a.n.0 a.q.0 a.count _ _ p.n_lt_pool.1 lies); lies_in = lies }

pub narrow-few-requires : goal.narrow-few-requires
narrow-few-requires c =
    let a = c.args in
    let p = c.requires in
    let lies = c.narrow-part.ensures in
    record { n_lt_pool = (p.n_lt_pool.0, p.n_lt_pool.2, p.n_lt_pool.3); le_step = (omega arith, omega arith, omega (arith, a.s.fits.cap-high), begins (shape_of a.s.layout) a.s.words.now a.n.0 a.q.0 a.count _ _ p.n_lt_pool.1 lies); lies_in = lies }

pub narrow-requires-2 : goal.narrow-requires-2
narrow-requires-2 c =
    let a = c.args in
    let p = c.requires in
    let lies = c.narrow-few.ensures in
    record { n_lt_pool = (p.n_lt_pool.0, p.n_lt_pool.2, p.n_lt_pool.3); le_step = (omega arith, omega arith, omega (arith, a.s.fits.cap-high), begins (shape_of a.s.layout) a.s.words.now a.n.0 a.q.0 a.count _ _ p.n_lt_pool.1 lies); lies_in = lies }
