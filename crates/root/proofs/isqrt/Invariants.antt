use Prim.Native.Nat.{◌-◌}
use Rattle.root.proofs.Digits.{At}
use Rattle.root.proofs.isqrt.Given as goal

abbrev pub invariant-loop-k : goal.invariant-loop-k
invariant-loop-k l = At l.n l.s (26 - l._k) l.p
