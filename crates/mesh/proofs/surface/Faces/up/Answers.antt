use Rattle.mesh.specs.Corners.{in-face}
use Rattle.mesh.proofs.surface.Faces.up.Goals as goal

pub up_in-requires : goal.up_in-requires
up_in-requires c = rw c.face_of.ensures (in-face _ _ c.args.self.shaped _ c.requires)
