use mathlib.Core.Path.{◌≡◌, sym, ap, ◌∙◌}
use native.Mathlib.Omega.{arith}
use native.Mathlib.Nat.{sub-zero}
use Rattle.std.proofs.lemmas.Result.{err_from_is_err_and}
use Rattle.std.specs.Prelude.{Ok}
use Rattle.model.specs.declared.node.RowPageIndexNodeHeader.{RowPageIndexNodeHeader}
use Rattle.prune_collapse.specs.Copied.{Collapses}
use Rattle.prune_collapse.proofs.Copying.{first, own, ends, stops, spoils, goes}
use Rattle.prune_collapse.proofs.find_copies.Goals as goal

pub loop-i-init : goal.loop-i-init
loop-i-init c = rw (ap (λ (h : RowPageIndexNodeHeader). h.height) c.header-levels.ensures, sub-zero) (first _ _ _ _ _ c.requires.positions_len.1 c.requires.sound_top)

pub copy_at-requires : goal.copy_at-requires
copy_at-requires c = let g = c.loop-i.invariant in record { asked = (g.inside, (own g).2, (own g).0, omega arith) }

pub returns-in_err-child : goal.returns-in_err-child
unfolding Collapses
returns-in_err-child c =
    let p = err_from_is_err_and c.from_residual.result c.from_residual.ensures.1 in
    record { are = rw (p.1, p.2) (spoils c.loop-i.invariant (omega arith) _ c.in_err-child.ensures); few = rw p.1 tt }

pub returns-in_default : goal.returns-in_default
unfolding Collapses
returns-in_default c =
    let g = c.loop-i.invariant in
    record { are = stops g (omega arith) (ap Ok (sym c.in_default.is) ∙ c.in_ok-child.ensures); few = (omega (arith, g.high, g.low), g.found) }

pub loop-i-preserved : goal.loop-i-preserved
loop-i-preserved c = goes c.loop-i.invariant (omega arith) _ (ap Ok (sym c.in-Some.is) ∙ c.in_ok-child.ensures) _ (omega arith)

pub returns : goal.returns
unfolding Collapses
returns c =
    let g = c.loop-i.invariant in
    let q : c.header-levels.result.height ≡ c.loop-i.i = omega arith in
    rw q (record { are = ends g (omega arith); few = (omega (arith, g.high, g.low), g.found) })
