use Rattle.std.proofs.Common.{ltb-false}
use Rattle.slices.specs.First.{nowhere}
use Rattle.mesh.specs.Tests.{few, cleared}
use Rattle.fans.proofs.check_round.Goals as goal

pub split_at-requires-clause-three : goal.split_at-requires-clause-three
split_at-requires-clause-three c v h =
    ltb-false _ _ (nowhere (few c.args.corners.now) _ (cleared _ _ _ _ c.few_at.ensures c.in_ok-refuse.ensures) v h)
