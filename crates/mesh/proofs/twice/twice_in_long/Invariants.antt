use Prim.Native.Nat.{◌-◌}
use Rattle.mesh.specs.Twice.{Unseen}
use Rattle.mesh.proofs.twice.twice_in_long.Given as goal

abbrev pub invariant-loop-low : goal.invariant-loop-low
invariant-loop-low l = Unseen l.run l.low

abbrev pub decreases-loop-low : goal.decreases-loop-low
decreases-loop-low l = l.positions - l.low
