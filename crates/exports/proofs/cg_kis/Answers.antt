use Rattle.std.proofs.Common.{rules}
use Rattle.exports.specs.Told.{told}
use Rattle.exports.proofs.cg_kis.Goals as goal

pub returns : goal.returns
returns c = let p = told (rw (c.optional-h.ensures, c.masked-m.ensures) at c.kis.ensures.came) c.spell.ensures in let s = c.kis.ensures.same in search rules
