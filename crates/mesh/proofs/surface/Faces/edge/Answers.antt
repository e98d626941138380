use Rattle.mesh.specs.Corners.{in-face}
use Rattle.mesh.proofs.surface.Faces.edge.Goals as goal

pub window_in-requires : goal.window_in-requires
window_in-requires c = rw c.face_of.ensures (in-face _ _ c.args.self.shaped _ c.requires)
