use mathlib.Core.Path.{refl, ◌∙◌}
use Rattle.lists.specs.ListLaws.{masks_by, lists_by}
use Rattle.lists.proofs.list.Goals as goal

pub returns : goal.returns
returns c =
    let masks = c.arities_of-arities.ensures c.args.regular ∙ masks_by c.arities_of-arities.result _ c.args.regular c.is_some.ensures c.unwrap_or.ensures refl in
    lists_by _ _ (c.as_slice.ensures ∙ c.steps_of-steps.ensures) masks c.run-ran.ensures
