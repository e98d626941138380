use Rattle.operators.specs.Operators.{quinto_outcome}
use Rattle.operators.specs.PlanLaws.{quinto-makes, fills}
use Rattle.operators.proofs.quinto.Goals as goal

pub returns : goal.returns
unfolding quinto_outcome
returns c = fills _ (cc) (quinto-makes _ _ _ _ _ _) c.check_numbers-own.ensures c.unmasked.ensures
