use Rattle.std.proofs.Common.{◌-◌}
use Rattle.slices.specs.First.{Searched}
use Rattle.mesh.specs.Mesh.{window_is}
use Rattle.mesh.specs.Scan.{Behind}
use Rattle.mesh.proofs.surface.Faces.find_window.Given as goal

abbrev pub invariant-loop-c : goal.invariant-loop-c
invariant-loop-c l = record { searched : Searched (window_is l.self.offsets.now l.self.corners.now l.e) l.stop l.c; behind : Behind l.self.offsets.now l.c l.f }

abbrev pub decreases-loop-c : goal.decreases-loop-c
decreases-loop-c l = l.stop - l.c
