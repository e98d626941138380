use Rattle.mesh.specs.Shape.{mono}
use Rattle.mesh.specs.Corners.{in-face, prev-in}
use Rattle.mesh.proofs.surface.Faces.turn.Goals as goal

pub face_on-f-requires-clause-rising : goal.face_on-f-requires-clause-rising
face_on-f-requires-clause-rising c = mono _ _ c.args.self.shaped

pub prev_in-requires : goal.prev_in-requires
prev_in-requires c = rw c.face_on-f.ensures (in-face _ _ c.args.self.shaped _ c.requires)

pub mate_in-requires : goal.mate_in-requires
mate_in-requires c =
    let s = c.args.self.shaped in
    rw (c.prev_in.ensures, c.face_on-f.ensures) (prev-in _ _ s _ _ (in-face _ _ s _ c.requires))
