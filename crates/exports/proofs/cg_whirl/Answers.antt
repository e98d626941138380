use Rattle.std.proofs.Common.{rules}
use Rattle.exports.specs.Told.{told}
use Rattle.exports.proofs.cg_whirl.Goals as goal

pub returns : goal.returns
returns c = let p = told (rw (c.optional-r.ensures, c.optional-h.ensures) at c.whirl.ensures.came) c.spell.ensures in let s = c.whirl.ensures.same in search rules
