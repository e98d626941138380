use Prim.Native.Nat.{◌-◌}
use Rattle.lines.specs.LineLaws.{Upto}
use Rattle.lines.proofs.put_steps.Given as goal

abbrev pub invariant-loop-k : goal.invariant-loop-k
invariant-loop-k l = Upto l.ran l.n l.k l.initial.text l.at l.text

abbrev pub decreases-loop-k : goal.decreases-loop-k
decreases-loop-k l = l.n - l.k
