-- What a header tells of its node.
use mathlib.Core.Bool.{Bool, true, false}
use mathlib.Core.Path.{◌≡◌, sym, ap, ◌∙◌}
use lib.Dec.{eqb}
use borrow.Author.Tests.{eqb-true, eqb-false}
use Rattle.model.specs.declared.node.RowPageIndexNodeHeader.{RowPageIndexNodeHeader}

module _ {h g : RowPageIndexNodeHeader} (e : h ≡ g) {r : Bool} (is : r ≡ eqb h.height 0) where
  asked : r ≡ eqb g.height 0
  asked = is ∙ ap (λ (x : RowPageIndexNodeHeader). eqb x.height 0) e

  pub leaf-height : r ≡ true → g.height ≡ 0
  leaf-height t = eqb-true g.height 0 (sym asked ∙ t)

  pub branch-height : r ≡ false → g.height ≡ 0 → ⊥
  branch-height t = eqb-false g.height 0 (sym asked ∙ t)
