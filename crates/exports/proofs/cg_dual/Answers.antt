use Rattle.std.proofs.Common.{rules}
use Rattle.exports.specs.Told.{told}
use Rattle.exports.proofs.cg_dual.Goals as goal

pub returns : goal.returns
returns c = let p = told c.dual.ensures.came c.spell.ensures in let s = c.dual.ensures.same in search rules
