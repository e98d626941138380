use lib.ListN.{length}
use Rattle.chain.proofs.+chain_on.Given as goal

-- how many steps are left
abbrev pub decreases-chain_on : goal.decreases-chain_on
decreases-chain_on l = length l.rest.now
