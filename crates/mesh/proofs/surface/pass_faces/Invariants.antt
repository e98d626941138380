use Prim.Native.Nat.{◌-◌}
use Rattle.mesh.specs.Mesh.{faces}
use Rattle.mesh.specs.Scan.{Behind}
use Rattle.mesh.proofs.surface.pass_faces.Given as goal

abbrev pub invariant-loop-g : goal.invariant-loop-g
invariant-loop-g l = Behind l.offsets l.c l.g

abbrev pub decreases-loop-g : goal.decreases-loop-g
decreases-loop-g l = faces l.offsets - l.g
