use Prim.Native.Nat.{◌-◌}
use Rattle.slices.specs.First.{is_at}
use Rattle.mesh.specs.Scan.{Skipped}
use Rattle.mesh.proofs.surface.leap.Given as goal

abbrev pub invariant-loop-c : goal.invariant-loop-c
invariant-loop-c l = Skipped (is_at l.corners l.v) l.stop l.from l.c

abbrev pub decreases-loop-c : goal.decreases-loop-c
decreases-loop-c l = l.stop - l.c
