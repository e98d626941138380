use mathlib.Core.Path.{◌≡◌}
use lib.ListN.{take}
use lib.Seq.{sets}
use Rattle.writer.specs.File.{flat_map, step_words, bytes_all}
use Rattle.writer.proofs.put_steps.Given as goal

abbrev pub invariant-loop-i : goal.invariant-loop-i
invariant-loop-i l = l.out ≡ sets l.initial.out l.from (bytes_all (flat_map step_words (take l.i l.steps)))
