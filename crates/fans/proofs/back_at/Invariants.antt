use Rattle.std.proofs.Common.{◌≡◌, ◌<◌, length}
use Rattle.slices.specs.First.{Searched}
use Rattle.mesh.specs.Mesh.{around}
use Rattle.mesh.specs.Tests.{back}
use Rattle.fans.proofs.back_at.Given as goal

abbrev pub invariant-loop-j : goal.invariant-loop-j
invariant-loop-j l = record {
  searched : Searched (back l.faces.offsets.now l.faces.corners.now l.start) l.stop l.j;
  turned : l.c ≡ around l.faces.offsets.now l.faces.corners.now l.start l.j;
  within : l.c < length l.faces.corners.now;
}
