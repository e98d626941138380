use Rattle.std.proofs.Common.{rules}
use Rattle.exports.specs.Told.{told}
use Rattle.exports.proofs.cg_chamfer.Goals as goal

pub returns : goal.returns
returns c = let p = told (rw c.optional-r.ensures at c.chamfer.ensures.came) c.spell.ensures in let s = c.chamfer.ensures.same in search rules
