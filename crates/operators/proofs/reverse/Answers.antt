use Rattle.mesh.specs.Tests.{clear}
use Rattle.operators.specs.Operators.{reverse_outcome}
use Rattle.operators.specs.PlanLaws.{reverse-makes, fills}
use Rattle.operators.proofs.reverse.Goals as goal

pub returns : goal.returns
unfolding reverse_outcome
returns c = fills _ c.reverse.ensures (reverse-makes _ _ _ _ _) clear c.unmasked.ensures
