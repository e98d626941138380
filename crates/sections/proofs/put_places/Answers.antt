use Rattle.std.proofs.Common.{◌≡◌, [], arith}
use Rattle.slices.specs.Lists.{each}
use Rattle.rule.specs.Rule.{faces_at_place, face_places, section_of}
use Rattle.rule.specs.Wrote.{room-each}
use Rattle.rule.specs.Output.{put_none, put-more}
use Rattle.rule.specs.Sections.{no_mask}
use Rattle.sections.proofs.put_places.Goals as goal

pub loop-i-init : goal.loop-i-init
unfolding each
loop-i-init c = put_none _

pub put_place-requires-clause-room : goal.put_place-requires-clause-room
unfolding section_of
put_place-requires-clause-room c =
    room-each (faces_at_place c.args.s c.args.bases no_mask [] [] c.args.offsets.now c.args.corners.now c.args.coords.now) c.loop-i.i (face_places c.args.s.shape c.args.offsets.now c.args.corners.now c.args.coords.now) (omega arith) c.requires.room c.loop-i.invariant.wrote

pub loop-i-preserved : goal.loop-i-preserved
loop-i-preserved c = put-more (faces_at_place c.args.s c.args.bases no_mask [] [] c.args.offsets.now c.args.corners.now c.args.coords.now) _ c.loop-i.invariant c.put_place.ensures

pub returns : goal.returns
unfolding section_of
returns c =
    let all : c.loop-i.i ≡ face_places c.args.s.shape c.args.offsets.now c.args.corners.now c.args.coords.now = omega arith in
    rw all at c.loop-i.invariant
