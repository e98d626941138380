use Rattle.std.proofs.Common.{rules}
use Rattle.exports.specs.Told.{told}
use Rattle.exports.proofs.cg_reverse.Goals as goal

pub returns : goal.returns
returns c = let p = told c.reverse.ensures.came c.spell.ensures in let s = c.reverse.ensures.same in search rules
