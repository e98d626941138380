use Rattle.operators.specs.Operators.{gyro_outcome}
use Rattle.operators.specs.PlanLaws.{gyro-makes, fills}
use Rattle.operators.proofs.gyro.Goals as goal

pub returns : goal.returns
unfolding gyro_outcome
returns c = fills _ (cc) (gyro-makes _ _ _ _ _ _ _) c.check_numbers-own.ensures c.unmasked.ensures
