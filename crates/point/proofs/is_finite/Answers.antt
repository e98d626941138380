use mathlib.Core.Path.{◌∙◌}
use Rattle.point.specs.Finite.{finite-is}
use Rattle.point.proofs.is_finite.Goals as goal

pub returns : goal.returns
returns c = c.is_finite.ensures.value ∙ finite-is c.args.x
