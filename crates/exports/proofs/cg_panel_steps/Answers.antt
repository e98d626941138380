use Rattle.exports.specs.Filing.{steps-told}
use Rattle.exports.proofs.cg_panel_steps.Goals as goal

pub returns : goal.returns
returns c = steps-told c.file_steps.ensures c.spell_filed.ensures
