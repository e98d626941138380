use Rattle.mesh.specs.Tests.{clear}
use Rattle.operators.specs.Operators.{triangulate_outcome}
use Rattle.operators.specs.PlanLaws.{triangulate-makes, fills}
use Rattle.operators.proofs.triangulate.Goals as goal

pub returns : goal.returns
unfolding triangulate_outcome
returns c = fills _ c.triangulate.ensures (triangulate-makes _ _ _ _ _ _) clear c.unmasked.ensures
