use Rattle.std.proofs.Common.{ℕ, List, Float}
use Rattle.slices.specs.Lists.{each}
use Rattle.spots.specs.Laid.{Laid}
use Rattle.spots.specs.Spots.{Gives}
use Rattle.spots.proofs.put_all.Given as goal

abbrev pub invariant-loop-i : goal.invariant-loop-i
invariant-loop-i g l = (p : ℕ → List Float) → Gives (goal.F-post g l.spots) l.n p → Laid l.initial.out l.initial.v (each p l.i) l.out l.v
