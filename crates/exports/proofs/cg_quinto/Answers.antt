use Rattle.std.proofs.Common.{rules}
use Rattle.exports.specs.Told.{told}
use Rattle.exports.proofs.cg_quinto.Goals as goal

pub returns : goal.returns
returns c = let p = told (rw c.optional-h.ensures at c.quinto.ensures.came) c.spell.ensures in let s = c.quinto.ensures.same in search rules
