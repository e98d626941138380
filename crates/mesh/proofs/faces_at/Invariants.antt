use Rattle.std.proofs.Common.{◌≡◌, ◌≤◌}
use Rattle.slices.specs.First.{count, is_at}
use Rattle.mesh.proofs.faces_at.Given as goal

abbrev pub invariant-loop-u : goal.invariant-loop-u
invariant-loop-u l = record { few : l.m ≤ l.u-index; counted : l.m ≡ count (is_at l.corners l.v) l.u-index }
