use Rattle.std.proofs.Common.{rules}
use Rattle.exports.specs.Runs.{list-told, coded-given}
use Rattle.exports.proofs.cg_list.Goals as goal

pub returns : goal.returns
returns c =
    let p = list-told (rw (c.optional-t.ensures, c.optional-h.ensures, coded-given _ _ _ _ _ _ _ _ _ _ c.listed-given.ensures) at c.list.ensures.listed) c.spell.ensures in
    let a = c.list.ensures.kept.first.same in let b = c.list.ensures.kept.second.same in let z = c.list.ensures.kept.output in
    search rules
