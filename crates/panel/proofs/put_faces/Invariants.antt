use mathlib.Core.Path.{◌≡◌}
use lib.ListN.{length}
use Rattle.panel.specs.Written.{Putting}
use Rattle.panel.proofs.put_faces.Given as goal

abbrev pub invariant-loop-i : goal.invariant-loop-i
invariant-loop-i l =
    (length l.offsets ≡ length l.initial.offsets) × (length l.corners ≡ length l.initial.corners) × Putting l.bytes l.from l.initial.offsets l.initial.corners l.i l.at l.k l.offsets l.corners
