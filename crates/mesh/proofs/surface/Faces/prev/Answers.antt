use Rattle.mesh.specs.Corners.{in-face}
use Rattle.mesh.proofs.surface.Faces.prev.Goals as goal

pub prev_in-requires : goal.prev_in-requires
prev_in-requires c = rw c.face_of.ensures (in-face _ _ c.args.self.shaped _ c.requires)
