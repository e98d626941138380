use Rattle.chain.specs.ChainLaws.{chained-from}
use Rattle.chain.proofs.chain.Goals as goal

pub returns-clause-chained : goal.returns-clause-chained
returns-clause-chained c = chained-from _ c.in-Ok.is (rw c.extent_in-e.ensures at c.chain_on.ensures.chained)
