use Rattle.std.proofs.Common.{◌∙◌}
use Rattle.mesh.specs.Tests.{passes, ends}
use Rattle.engine.specs.Result.{room_tests}
use Rattle.engine.specs.ResultLaws.{fitted}
use Rattle.engine.proofs.check_room.Goals as goal

pub returns-clause-fits : goal.returns-clause-fits
unfolding room_tests
returns-clause-fits c = fitted _ _ _ _ _ _ _ (passes _ _ _ c.limit_at.ensures c.in_ok-refuse.ensures (c.refuse-2.ensures ∙ ends _ _ c.cramped_at.ensures))
