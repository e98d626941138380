use Rattle.operators.specs.Operators.{propellor_outcome}
use Rattle.operators.specs.PlanLaws.{propellor-makes, fills}
use Rattle.operators.proofs.propellor.Goals as goal

pub returns : goal.returns
unfolding propellor_outcome
returns c = fills _ (cc) (propellor-makes _ _ _ _ _ _) c.check_numbers-own.ensures c.unmasked.ensures
