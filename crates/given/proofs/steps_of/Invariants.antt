use mathlib.Core.Path.{◌≡◌}
use lib.ListN.{take}
use lib.Seq.{sets}
use Rattle.std.specs.Prelude.{map}
use Rattle.panel.specs.Format.{fillers}
use Rattle.given.specs.Given.{from_words}
use Rattle.given.proofs.steps_of.Given as goal

abbrev pub invariant-loop-i : goal.invariant-loop-i
invariant-loop-i l = l.list ≡ sets fillers 0 (map from_words (take l.i l.steps))
