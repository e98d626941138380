use mathlib.Core.Path.{refl, ◌∙◌}
use native.Mathlib.Omega.{arith}
use Rattle.recipes.specs.Recipe.{flat_rows}
use Rattle.recipes.specs.RecipeLaws.{flat-push}
use Rattle.recipes.proofs.write_flat.Goals as goal

pub loop-i-init : goal.loop-i-init
unfolding flat_rows
loop-i-init c = refl

pub loop-i-preserved : goal.loop-i-preserved
loop-i-preserved c = flat-push c.args.rows.now c.args.ledger.now _ _ c.loop-i.i _ _ (omega arith) refl (omega arith) c.loop-i.invariant (c.copy_from_slice.ensures.after ∙ c.flat_row.ensures)
