use Rattle.std.proofs.Common.{refl}
use Rattle.engine.specs.Plan.{plan_bases}
use Rattle.engine.proofs.work.Work.bases.Goals as goal

pub returns-clause-value : goal.returns-clause-value
unfolding plan_bases
returns-clause-value c = rw (c.started-2.ensures, c.started.ensures, c.width.ensures.value, c.width-first.ensures.value) refl
