use Rattle.mesh.specs.Tests.{clear}
use Rattle.operators.specs.Operators.{dual_outcome}
use Rattle.operators.specs.PlanLaws.{dual-makes, fills}
use Rattle.operators.proofs.dual.Goals as goal

pub returns : goal.returns
unfolding dual_outcome
returns c = fills _ c.dual.ensures (dual-makes _ _ _ _ _) clear c.unmasked.ensures
