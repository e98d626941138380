use mathlib.Core.Path.{◌≡◌}
use Rattle.faces.specs.Regular.{sides_to}
use Rattle.faces.proofs.Run.sides.Given as goal

abbrev pub invariant-loop-i : goal.invariant-loop-i
invariant-loop-i l = l.sides ≡ sides_to l.self.coords.now l.self.face.now l.i
