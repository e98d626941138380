use Rattle.std.proofs.Common.{rules}
use Rattle.exports.specs.Told.{told}
use Rattle.exports.proofs.cg_reflect.Goals as goal

pub returns : goal.returns
returns c = let p = told c.reflect.ensures.came c.spell.ensures in let s = c.reflect.ensures.same in search rules
