use Rattle.mesh.specs.Scan.{Behind}
use Rattle.mesh.proofs.surface.face_from.Given as goal

abbrev pub invariant-loop-g : goal.invariant-loop-g
invariant-loop-g l = Behind l.offsets l.c l.g
