use Rattle.std.proofs.Common.{get_or, take}
use Rattle.rule.specs.Rule.{old, vertex_at}
use Rattle.rule.specs.Slots.{made_long}
use Rattle.rule.specs.Faces.{length-inner, length-outer}
use Rattle.rule.specs.Wrote.{room_as, room-one}
use Rattle.rule.specs.Output.{put_as}
use Rattle.rule.specs.Sections.{at-corners, at-ups, at_inner, at-vertices}
use Rattle.rule.specs.declared.Move.TheVariants.{Here}
use Rattle.sections.proofs.put_closed.Goals as goal

pub put_face-requires-clause-space : goal.put_face-requires-clause-space
put_face-requires-clause-space c =
    room-one _ (made_long (vertex_at c.args.numbering.offsets.now c.args.numbering.corners.now c.args.numbering.bases) (take c.args.s.n c.args.s.slots) c.args.i)
    (room_as (at-corners _ _ _ _ _ _ _ _ _ c.in-Corners.is) c.requires.room)

pub put_up-requires-clause-room : goal.put_up-requires-clause-room
put_up-requires-clause-room c = room_as (at-ups _ _ _ _ _ _ _ _ _ c.in-Ups.is) c.requires.room

pub put_inner-requires-clause-space : goal.put_inner-requires-clause-space
put_inner-requires-clause-space c =
    room-one _ (length-inner (vertex_at c.args.numbering.offsets.now c.args.numbering.corners.now c.args.numbering.bases) c.args.numbering.offsets.now (get_or c.args.s.slots 0 (old Here)) c.args.i)
    (room_as (at_inner _ _ _ _ _ _ _ _ _ c.in-Inner.is) c.requires.room)

pub put_outer-requires : goal.put_outer-requires
put_outer-requires c =
    room-one _ (length-outer (vertex_at c.args.numbering.offsets.now c.args.numbering.corners.now c.args.numbering.bases) c.args.numbering.offsets.now c.args.numbering.corners.now (get_or c.args.s.slots 0 (old Here)) c.args.i)
    (room_as (at-vertices _ _ _ _ _ _ _ _ _ c.in-Vertices.is) c.requires.room)

pub returns-in-Corners : goal.returns-in-Corners
returns-in-Corners c = put_as (at-corners _ _ _ _ _ _ _ _ _ c.in-Corners.is) c.put_face.ensures

pub returns-in-Ups : goal.returns-in-Ups
returns-in-Ups c = put_as (at-ups _ _ _ _ _ _ _ _ _ c.in-Ups.is) c.put_up.ensures

pub returns-in-Inner : goal.returns-in-Inner
returns-in-Inner c = put_as (at_inner _ _ _ _ _ _ _ _ _ c.in-Inner.is) c.put_inner.ensures

pub returns-in-Vertices : goal.returns-in-Vertices
returns-in-Vertices c = put_as (at-vertices _ _ _ _ _ _ _ _ _ c.in-Vertices.is) c.put_outer.ensures
