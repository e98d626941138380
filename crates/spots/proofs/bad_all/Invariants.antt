use Rattle.std.proofs.Common.{◌≡◌, ℕ, ◌*◌, ◌≤◌, List, Float, None, length}
use Rattle.slices.specs.Lists.{each}
use Rattle.spots.specs.Laid.{bad_at}
use Rattle.spots.specs.Spots.{Gives}
use Rattle.spots.proofs.bad_all.Given as goal

abbrev pub invariant-loop-i : goal.invariant-loop-i
invariant-loop-i g l =
    (l.at ≤ 6 * l.i) × ((p : ℕ → List Float) → Gives (goal.F-post g l.spots) l.n p → (l.at ≡ length (each p l.i)) × (None ≡ bad_at (each p l.i)))
