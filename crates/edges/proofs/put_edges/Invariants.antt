use Rattle.std.proofs.Common.{◌≡◌, length}
use Rattle.std.proofs.lemmas.List.Edits.{sets}
use Rattle.slices.specs.First.{count}
use Rattle.slices.specs.Lists.{each}
use Rattle.mesh.specs.Edges.{up}
use Rattle.mesh.specs.Shape.{At}
use Rattle.edges.specs.EdgeList.{rise}
use Rattle.edges.proofs.put_edges.Given as goal

abbrev pub invariant-loop-c : goal.invariant-loop-c
invariant-loop-c l = record {
  counted : l.m ≡ count (up l.faces.offsets.now l.faces.corners.now) l.c;
  stored : l.out ≡ sets l.initial.out 0 (each (rise l.faces.offsets.now l.faces.corners.now) l.c);
  own : At l.faces.offsets.now (length l.faces.corners.now) l.f l.c;
}
