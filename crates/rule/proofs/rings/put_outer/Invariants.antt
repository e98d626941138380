use Rattle.std.proofs.Common.{◌≡◌, ◌<◌, [], ◌∷◌, length}
use Rattle.std.proofs.lemmas.List.Edits.{sets}
use Rattle.slices.specs.Lists.{each}
use Rattle.mesh.specs.Mesh.{around}
use Rattle.mesh.specs.Tests.{lowest}
use Rattle.rule.specs.Numbering.{vertices}
use Rattle.rule.specs.Output.{Kept}
use Rattle.rule.proofs.rings.put_outer.Given as goal

abbrev pub invariant-loop-j : goal.invariant-loop-j
invariant-loop-j l = record {
  kept : Kept l.initial.out l.out;
  filled : l.out.corners.now ≡ sets l.initial.out.corners.now l.k (each (λ i. vertices l.numbering l.s (around l.numbering.offsets.now l.corners (lowest l.corners l.u) i) ∷ []) l.j);
  here : l.c ≡ around l.numbering.offsets.now l.corners (lowest l.corners l.u) l.j;
  within : l.j < l.n → l.c < length l.corners;
}
