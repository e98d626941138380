use Rattle.std.specs.Prelude.{◌≡◌, ℕ, Bool, ◌<◌}
use Rattle.slices.specs.First.{Searched}
use Rattle.slices.proofs.lowest.Given as goal

abbrev pub invariant-loop-i : goal.invariant-loop-i
invariant-loop-i g l = (p : ℕ → Bool) → ((k : ℕ) (b : Bool) → k < l.stop → goal.F-post g l.test k b → b ≡ p k) → Searched p l.stop l.i
