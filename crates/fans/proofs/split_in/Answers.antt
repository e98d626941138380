use Rattle.std.proofs.Common.{arith}
use Rattle.slices.specs.First.{count-found}
use Rattle.fans.proofs.split_in.Goals as goal

pub back_at-requires-clause-start_in_bounds : goal.back_at-requires-clause-start_in_bounds
back_at-requires-clause-start_in_bounds c = rw c.find-start.ensures (count-found _ _ (let w = c.requires.bound in omega arith))
