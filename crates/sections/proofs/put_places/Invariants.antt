use Rattle.std.proofs.Common.{[]}
use Rattle.slices.specs.Lists.{each}
use Rattle.rule.specs.Output.{Put}
use Rattle.rule.specs.Rule.{faces_at_place}
use Rattle.rule.specs.Sections.{no_mask}
use Rattle.sections.proofs.put_places.Given as goal

abbrev pub invariant-loop-i : goal.invariant-loop-i
invariant-loop-i l = Put l.initial.out (each (faces_at_place l.s l.bases no_mask [] [] l.offsets l.corners l.coords) l.i) l.out
