use Rattle.spots.specs.Laid.{laid_start, laid_more, laid-room}
use Rattle.spots.proofs.put_all.Goals as goal

pub loop-i-init : goal.loop-i-init
loop-i-init g c p gives = laid_start p _ _

pub put-v-requires : goal.put-v-requires
put-v-requires g c =
    let r = c.requires.room in
    rw (r.1 _ _ c.loop-i-test.true c.spots.ensures) (laid-room r.0 _ _ c.loop-i-test.true r.2 (c.loop-i.invariant r.0 r.1))

pub loop-i-preserved : goal.loop-i-preserved
loop-i-preserved g c p gives =
    laid_more p _ (c.loop-i.invariant p gives) (rw (gives _ _ c.loop-i-test.true c.spots.ensures) at c.put-v.ensures)
