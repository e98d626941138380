use Rattle.std.specs.Prelude.{◌≡◌, take}
use Rattle.std.proofs.lemmas.List.Edits.{sets}
use Rattle.slices.proofs.copy_to_front.Given as goal

abbrev pub invariant-loop-i : goal.invariant-loop-i
invariant-loop-i g l = l.out ≡ sets l.initial.out 0 (take l.i l.list)
