use Rattle.operators.specs.Operators.{whirl_outcome}
use Rattle.operators.specs.PlanLaws.{whirl-makes, fills}
use Rattle.operators.proofs.whirl.Goals as goal

pub returns : goal.returns
unfolding whirl_outcome
returns c = fills _ (cc) (whirl-makes _ _ _ _ _ _ _) c.check_numbers-own.ensures c.unmasked.ensures
