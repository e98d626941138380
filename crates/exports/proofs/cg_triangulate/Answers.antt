use Rattle.std.proofs.Common.{rules}
use Rattle.exports.specs.Told.{told}
use Rattle.exports.proofs.cg_triangulate.Goals as goal

pub returns : goal.returns
returns c = let p = told c.triangulate.ensures.came c.spell.ensures in let s = c.triangulate.ensures.same in search rules
