use Rattle.std.proofs.Common.{rules}
use Rattle.exports.specs.Runs.{ledger-told}
use Rattle.exports.proofs.cg_recipe.Goals as goal

pub returns : goal.returns
returns c =
    let p = ledger-told c.recipe.ensures.entered c.spell.ensures in
    let a = c.recipe.ensures.kept.first.same in let b = c.recipe.ensures.kept.second.same in let z = c.recipe.ensures.kept.output in
    search rules
