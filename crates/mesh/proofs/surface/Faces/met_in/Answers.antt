use Rattle.std.proofs.Common.{le_of_lt}
use Rattle.mesh.specs.Shape.{in-lt}
use Rattle.mesh.proofs.surface.Faces.met_in.Goals as goal

pub find_window-requires : goal.find_window-requires
find_window-requires c = le_of_lt (in-lt _ _ c.args.self.shaped _ _ c.requires)
