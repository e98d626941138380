use Rattle.std.proofs.Common.{◌+◌, ◌-◌, [], ◌∷◌}
use Rattle.slices.specs.Lists.{each}
use Rattle.rule.specs.Rule.{made}
use Rattle.rule.specs.Numbering.{vertices}
use Rattle.rule.specs.Output.{Put}
use Rattle.rule.proofs.rings.put_splits.Given as goal

abbrev pub invariant-loop-c : goal.invariant-loop-c
invariant-loop-c l =
    Put l.initial.out (each (λ i. made (vertices l.numbering) l.slots (l.lo + i) ∷ []) (l.c - l.lo)) l.out
