use mathlib.Core.Path.{◌≡◌}
use Prim.Native.Nat.{◌+◌, ◌-◌, ◌*◌, ◌≤◌}
use Rattle.parts.specs.Parts.{faces}
use Rattle.parts.proofs.check_faces.Given as goal

abbrev pub invariant-loop : goal.invariant-loop
invariant-loop l =
    (l.sum ≤ 1200) × (l.at ≤ 6000 + 4 * l.counter + 4 * l.sum) × (faces l.bytes l.at l.sum (l.n - l.counter) ≡ faces l.bytes l.from 0 l.n)
