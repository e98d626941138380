use Rattle.mesh.specs.Corners.{in-face}
use Rattle.mesh.proofs.surface.Faces.next.Goals as goal

pub next_in-requires : goal.next_in-requires
next_in-requires c = rw c.face_of.ensures (in-face _ _ c.args.self.shaped _ c.requires)
