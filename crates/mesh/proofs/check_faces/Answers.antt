use Rattle.mesh.specs.Tests.{cleared}
use Rattle.mesh.specs.Twice.{passed-outside}
use Rattle.mesh.proofs.check_faces.Goals as goal

pub repeat_at-requires-clause-inside : goal.repeat_at-requires-clause-inside
repeat_at-requires-clause-inside c = passed-outside c.args.corners.now _ (cleared _ _ _ _ c.outside_at.ensures c.in_ok-refuse-3.ensures)
