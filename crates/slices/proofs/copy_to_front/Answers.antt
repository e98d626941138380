use Rattle.slices.specs.Lists.{copy_more}
use Rattle.slices.proofs.copy_to_front.Goals as goal

pub loop-i-preserved : goal.loop-i-preserved
loop-i-preserved g c = copy_more _ _ c.index-list-i.result _ _ _ c.loop-i-test.true c.loop-i.invariant c.index-list-i.is
