use Rattle.mesh.specs.Tests.{clear}
use Rattle.operators.specs.Operators.{reflect_outcome}
use Rattle.operators.specs.PlanLaws.{reflect-makes, fills}
use Rattle.operators.proofs.reflect.Goals as goal

pub returns : goal.returns
unfolding reflect_outcome
returns c = fills _ c.reflect.ensures (reflect-makes _ _ _ _ _) clear c.unmasked.ensures
