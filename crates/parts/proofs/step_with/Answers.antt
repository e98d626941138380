use Rattle.parts.specs.Items.{step_from}
use Rattle.parts.proofs.step_with.Goals as goal

pub returns : goal.returns
returns c = step_from _ _ _ _ _ _ _ c.number_of-t.ensures c.number_of-h.ensures c.step_of.ensures
