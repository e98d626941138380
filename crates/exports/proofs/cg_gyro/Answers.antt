use Rattle.std.proofs.Common.{rules}
use Rattle.exports.specs.Told.{told}
use Rattle.exports.proofs.cg_gyro.Goals as goal

pub returns : goal.returns
returns c = let p = told (rw (c.optional-r.ensures, c.optional-h.ensures) at c.gyro.ensures.came) c.spell.ensures in let s = c.gyro.ensures.same in search rules
