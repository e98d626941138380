use lib.ListN.{length}
use Rattle.slices.specs.First.{Searched}
use Rattle.mesh.specs.Tests.{met}
use Rattle.mesh.specs.Shape.{At}
use Rattle.mesh.proofs.surface.Faces.met_at.Given as goal

abbrev pub invariant-loop-c : goal.invariant-loop-c
invariant-loop-c l = Searched (met l.self.offsets.now l.self.corners.now) (length l.self.corners.now) l.c × At l.self.offsets.now (length l.self.corners.now) l.f l.c
