use mathlib.Core.Path.{refl}
use Rattle.model.specs.Paths.{stack}
use Rattle.model.proofs.path.Path.new.Goals as goal

pub returns : goal.returns
unfolding stack
returns c = (refl, refl)
