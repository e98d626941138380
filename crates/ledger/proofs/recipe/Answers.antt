use Rattle.std.proofs.Common.{sym, ◌∙◌, length-take-le}
use native.Mathlib.Omega.{arith}
use Rattle.recipes.specs.RecipeLaws.{rows-in}
use Rattle.ledger.proofs.recipe.Goals as goal

pub slice_bounds-copy_from_slice-end : goal.slice_bounds-copy_from_slice-end
slice_bounds-copy_from_slice-end c = (rows-in _ _ _ _ c.core-ran.ensures).1.1

pub slice_bounds-copy_from_slice-end-2 : goal.slice_bounds-copy_from_slice-end-2
slice_bounds-copy_from_slice-end-2 c = sym (length-take-le _ c.args.rows.now (rows-in _ _ _ _ c.core-ran.ensures).1.1)

pub copy_from_slice-requires : goal.copy_from_slice-requires
copy_from_slice-requires c =
    let r = rows-in _ _ _ _ c.core-ran.ensures in
    length-take-le _ c.args.rows.now r.1.1 ∙ sym (length-take-le _ c.core-ran.result.rows (omega (arith, r)))
