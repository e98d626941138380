use Rattle.std.proofs.Common.{◌≡◌, arith}
use Rattle.slices.specs.First.{count_none, count-le}
use Rattle.slices.specs.Lists.{each}
use Rattle.picks.specs.Picks.{picked}
use Rattle.rule.specs.Rule.{faces_at_place, face_places, section_of}
use Rattle.rule.specs.Sections.{picks_at, places-picks, count-step}
use Rattle.rule.specs.Wrote.{room_as, room-each}
use Rattle.rule.specs.Output.{put_none, put_as, put-more}
use Rattle.sections.proofs.put_picks.Goals as goal

pub loop-f-init : goal.loop-f-init
unfolding each
loop-f-init c = record { counted = count_none _; put = put_none _ }

pub put_pick-requires-clause-low : goal.put_pick-requires-clause-low
put_pick-requires-clause-low c =
    let k = c.args.masks in
    let q = c.args.numbering in
    let few = count-le (picked k.mask k.arities.now k.numbers.now q.offsets.now q.corners.now c.args.coords.now) c.loop-f.f in
    (c.requires.low.0, omega (arith, q.sound.few-faces))

pub put_pick-requires-clause-room : goal.put_pick-requires-clause-room
unfolding section_of
put_pick-requires-clause-room c =
    let i = c.loop-f.invariant in
    let k = c.args.masks in
    let q = c.args.numbering in
    let s = c.args.s in
    let x = c.args.coords.now in
    room_as (picks_at s q.bases _ _ _ _ _ _ _ _ _ c.requires.shape_value i.counted c.picks-hit.ensures)
    (room-each (faces_at_place s q.bases k.mask k.arities.now k.numbers.now q.offsets.now q.corners.now x) c.loop-f.f (face_places s.shape q.offsets.now q.corners.now x) (omega (arith, places-picks s.shape q.offsets.now q.corners.now x c.requires.shape_value)) c.requires.room i.put.wrote)

pub overflow_add-seen : goal.overflow_add-seen
overflow_add-seen c =
    let k = c.args.masks in
    let q = c.args.numbering in
    let few = count-le (picked k.mask k.arities.now k.numbers.now q.offsets.now q.corners.now c.args.coords.now) c.loop-f.f in
    let faces-few = q.sound.few-faces in
    grind arith

pub loop-f-preserved : goal.loop-f-preserved
loop-f-preserved c =
    let i = c.loop-f.invariant in
    let k = c.args.masks in
    let q = c.args.numbering in
    record {
      counted = count-step _ _ _ _ _ i.counted c.picks-hit.ensures (grind arith);
      put = put-more (faces_at_place c.args.s q.bases k.mask k.arities.now k.numbers.now q.offsets.now q.corners.now c.args.coords.now) _ i.put (put_as (picks_at c.args.s q.bases _ _ _ _ _ _ _ _ _ c.requires.shape_value i.counted c.picks-hit.ensures) c.put_pick.ensures);
    }

pub returns : goal.returns
unfolding section_of
returns c =
    let q = c.args.numbering in
    let all : c.loop-f.f ≡ face_places c.args.s.shape q.offsets.now q.corners.now c.args.coords.now = omega (arith, places-picks c.args.s.shape q.offsets.now q.corners.now c.args.coords.now c.requires.shape_value) in
    rw all at c.loop-f.invariant.put
