use Rattle.mesh.specs.Twice.{unmarked-new}
use Rattle.mesh.proofs.twice.twice_from.Goals as goal

pub marked_twice-requires : goal.marked_twice-requires
marked_twice-requires c = unmarked-new 4096
