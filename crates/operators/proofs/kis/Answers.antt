use Rattle.operators.specs.Operators.{kis_outcome}
use Rattle.operators.specs.PlanLaws.{kis-makes, fills}
use Rattle.operators.proofs.kis.Goals as goal

pub returns : goal.returns
unfolding kis_outcome
returns c = fills _ (cc) (kis-makes _ _ _ _ _ _ _) c.check_numbers-own.ensures c.run.ensures
