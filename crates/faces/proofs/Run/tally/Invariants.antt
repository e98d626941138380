use mathlib.Core.Path.{◌≡◌}
use Prim.Native.Nat.{◌≤◌}
use Rattle.faces.specs.Normal.{tally_to}
use Rattle.faces.proofs.Run.tally.Given as goal

abbrev pub invariant-loop-i : goal.invariant-loop-i
invariant-loop-i l = record { value : l.tally ≡ tally_to l.self.coords.now l.self.face.now l.i; seen_bound : l.tally.seen ≤ l.i }
