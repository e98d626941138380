use Rattle.exports.specs.Filing.{write-told}
use Rattle.exports.proofs.cg_panel_write.Goals as goal

pub returns : goal.returns
returns c = write-told c.write.ensures c.spell_written.ensures
