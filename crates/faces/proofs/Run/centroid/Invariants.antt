use mathlib.Core.Path.{◌≡◌}
use Rattle.faces.specs.Face.{sum_to}
use Rattle.faces.proofs.Run.centroid.Given as goal

abbrev pub invariant-loop-v : goal.invariant-loop-v
invariant-loop-v l = l.sum ≡ sum_to l.self.coords.now l.self.face.now l.v-index
