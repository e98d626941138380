use Rattle.std.proofs.Common.{◌*◌}
use Rattle.slices.specs.Lists.{each}
use Rattle.rule.specs.Sizes.{Counted}
use Rattle.sections.specs.Lent.{faces_on}
use Rattle.sections.proofs.section_size.Given as goal

abbrev pub invariant-loop-i : goal.invariant-loop-i
invariant-loop-i l =
    Counted (λ b. each (faces_on l.s l.masks l.mesh b) l.i) (l.i * 400000) l.t
