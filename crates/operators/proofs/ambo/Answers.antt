use Rattle.operators.specs.Operators.{ambo_outcome}
use Rattle.operators.specs.PlanLaws.{ambo-makes, fills}
use Rattle.operators.proofs.ambo.Goals as goal

pub returns : goal.returns
unfolding ambo_outcome
returns c = fills _ (cc) (ambo-makes _ _ _ _ _ _) c.check_numbers-own.ensures c.unmasked.ensures
