use Rattle.chain.specs.ChainLaws.{same-size}
use Rattle.chain.proofs.step.Goals as goal

pub returns-clause-kept : goal.returns-clause-kept
returns-clause-kept c = record { same = c.apply-made.ensures.same; size = same-size _ _ _ c.apply-made.ensures.came }
