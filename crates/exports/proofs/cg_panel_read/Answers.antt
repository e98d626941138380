use Rattle.std.proofs.Common.{rules}
use Rattle.exports.specs.Filing.{file-told}
use Rattle.exports.proofs.cg_panel_read.Goals as goal

pub returns : goal.returns
returns c = let p = file-told c.read.ensures.read c.spell_filed.ensures in let s = c.read.ensures.same in search rules
