use lib.ListN.{length}
use Rattle.mesh.specs.Twice.{Walked}
use Rattle.mesh.proofs.twice.marked_twice.Given as goal

abbrev pub invariant-loop-v : goal.invariant-loop-v
invariant-loop-v l = Walked l.low (length l.initial.marks) l.run l.v-index l.marks
