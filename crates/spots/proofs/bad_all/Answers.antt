use Rattle.spots.specs.Laid.{passed_bad}
use Rattle.spots.proofs.bad_all.Goals as goal

pub returns-in-Some : goal.returns-in-Some
returns-in-Some g c p gives =
    let i = c.loop-i.invariant.1 p gives in
    passed_bad p _ _ i.0 _ _ i.1 c.loop-i-test.true (rw (gives _ _ c.loop-i-test.true c.spots-found.ensures) at c.in-Some.ensures)
