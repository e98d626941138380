use Rattle.panel.specs.Ends.{step_is}
use Rattle.panel.proofs.step_at.Goals as goal

pub returns : goal.returns
returns c = step_is _ _ _ _ _ _ _ c.word.ensures c.word-2.ensures c.word-3.ensures c.word-4.ensures c.step_with.ensures
