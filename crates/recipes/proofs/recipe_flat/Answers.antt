use native.Mathlib.Omega.{arith}
use Rattle.recipes.specs.RecipeLaws.{take-few, rows-in}
use Rattle.recipes.proofs.recipe_flat.Goals as goal

pub write_flat-requires : goal.write_flat-requires
write_flat-requires c = omega (arith, rows-in _ _ _ _ c.core-ran.ensures, take-few c.core-ran.result.done c.core-ran.result.rows)
