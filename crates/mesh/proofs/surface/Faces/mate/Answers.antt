use Rattle.mesh.specs.Corners.{in-face}
use Rattle.mesh.proofs.surface.Faces.mate.Goals as goal

pub mate_in-requires : goal.mate_in-requires
mate_in-requires c = rw c.face_of.ensures (in-face _ _ c.args.self.shaped _ c.requires)
