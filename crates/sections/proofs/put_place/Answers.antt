use Rattle.rule.specs.Faces.{length-backward}
use Rattle.rule.specs.Wrote.{room_as, room-one}
use Rattle.rule.specs.Output.{put_as}
use Rattle.rule.specs.Sections.{at-backward, at-triangles}
use Rattle.sections.proofs.put_place.Goals as goal

pub put_backward-requires-clause-space : goal.put_backward-requires-clause-space
put_backward-requires-clause-space c =
    room-one _ (length-backward c.args.offsets.now c.args.corners.now c.args.i) (room_as (at-backward _ _ _ _ _ _ _ _ _ c.in-Backward.is) c.requires.room)

pub put_cut-requires-clause-room : goal.put_cut-requires-clause-room
put_cut-requires-clause-room c = room_as (at-triangles _ _ _ _ _ _ _ _ _ _ c.in-Triangles.is) c.requires.room

pub returns-in-Backward : goal.returns-in-Backward
returns-in-Backward c = put_as (at-backward _ _ _ _ _ _ _ _ _ c.in-Backward.is) c.put_backward.ensures

pub returns-in-Triangles : goal.returns-in-Triangles
returns-in-Triangles c = put_as (at-triangles _ _ _ _ _ _ _ _ _ _ c.in-Triangles.is) c.put_cut.ensures
