use Rattle.operators.specs.Operators.{chamfer_outcome}
use Rattle.operators.specs.PlanLaws.{chamfer-makes, fills}
use Rattle.operators.proofs.chamfer.Goals as goal

pub returns : goal.returns
unfolding chamfer_outcome
returns c = fills _ (cc) (chamfer-makes _ _ _ _ _ _) c.check_numbers-own.ensures c.unmasked.ensures
