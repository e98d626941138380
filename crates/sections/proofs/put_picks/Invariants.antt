use Rattle.std.proofs.Common.{◌≡◌}
use Rattle.slices.specs.First.{count}
use Rattle.slices.specs.Lists.{each}
use Rattle.rule.specs.Output.{Put}
use Rattle.picks.specs.Picks.{picked}
use Rattle.rule.specs.Rule.{faces_at_place}
use Rattle.sections.proofs.put_picks.Given as goal

abbrev pub invariant-loop-f : goal.invariant-loop-f
invariant-loop-f l = record {
  counted : l.seen ≡ count (picked l.masks.mask l.masks.arities.now l.masks.numbers.now l.offsets l.corners l.coords) l.f;
  put : Put l.initial.out (each (faces_at_place l.fn.s l.numbering.bases l.masks.mask l.masks.arities.now l.masks.numbers.now l.offsets l.corners l.coords) l.f) l.out;
}
