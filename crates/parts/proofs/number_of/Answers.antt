use mathlib.Core.Path.{ap}
use Rattle.std.specs.Prelude.{Some, None}
use Rattle.parts.proofs.number_of.Goals as goal

pub returns-then-present : goal.returns-then-present
returns-then-present c = rw c.if-present.true (ap Some c.float_of.ensures)
