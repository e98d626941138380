use Rattle.std.proofs.Common.{◌≡◌, ◌≤◌, length}
use Rattle.slices.specs.First.{count}
use Rattle.mesh.specs.Edges.{up}
use Rattle.mesh.specs.Shape.{At}
use Rattle.mesh.proofs.surface.Faces.ups_below.Given as goal

abbrev pub invariant-loop-c : goal.invariant-loop-c
invariant-loop-c l = record {
  few : l.m ≤ l.c;
  counted : l.m ≡ count (up l.self.offsets.now l.self.corners.now) l.c;
  own : At l.self.offsets.now (length l.self.corners.now) l.f l.c;
}
