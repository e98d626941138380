use mathlib.Core.Path.{◌≡◌}
use lib.ListN.{take}
use Rattle.slices.specs.Lists.{over}
use Rattle.recipes.specs.Recipe.{flat_rows}
use Rattle.recipes.proofs.write_flat.Given as goal

-- the rows so far are written, and what follows stands as it was
abbrev pub invariant-loop-i : goal.invariant-loop-i
invariant-loop-i l = l.ledger ≡ over (flat_rows (take l.i l.rows)) l.initial.ledger
