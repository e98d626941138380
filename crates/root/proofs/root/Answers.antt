use Rattle.root.specs.Sqrt.{root32}
use Rattle.root.proofs.root.Goals as goal

pub returns : goal.returns
unfolding root32
returns c = cc
