use Rattle.std.proofs.Common.{rules}
use Rattle.exports.specs.Told.{told}
use Rattle.exports.proofs.cg_ambo.Goals as goal

pub returns : goal.returns
returns c = let p = told (rw c.optional-r.ensures at c.ambo.ensures.came) c.spell.ensures in let s = c.ambo.ensures.same in search rules
