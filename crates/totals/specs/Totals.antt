-- What a line of a report says of a mesh: X = V - E + F and H = (2 - X) / 2, whole numbers by their sign and size. Definitions only.
use Rattle.std.specs.Prelude.{true, false, cond, ℕ, ◌+◌, ◌-◌, ◌/◌, get_or, ltb, leb}
use Rattle.engine.specs.declared.Counts.{Counts}
use Rattle.engine.specs.Answer.{Answer}
use Rattle.engine.specs.Answer.{Done}
use Rattle.chain.specs.declared.Row.{Row}
use Rattle.chain.specs.declared.Ran.{Ran}
use Rattle.totals.specs.declared.Whole.{Whole}

-- a - b
abbrev pub difference : ℕ → ℕ → Whole
difference a b = cond (leb b a) (record { minus = false; size = a - b }) (record { minus = true; size = b - a })

-- half of it, rounded toward zero, which has no sign
abbrev pub half_of : Whole → Whole
half_of w = cond (ltb w.size 2) (record { minus = false; size = 0 }) (record { minus = w.minus; size = w.size / 2 })

-- X
abbrev pub euler_of : Counts → Whole
euler_of c = difference (c.v + c.f) c.e

-- H: 2 - X is (E + 2) - (V + F)
abbrev pub handles_of : Counts → Whole
handles_of c = half_of (difference (c.e + 2) (c.v + c.f))

-- the answer of step k + 1: the counts of its row, where it is finished
abbrev pub no_row : Row
no_row = record { code = 0; v = 0; e = 0; f = 0 }

abbrev pub counts_in : Row → Counts
counts_in r = record { v = r.v; e = r.e; f = r.f }

unfoldable pub answer_at : Ran → ℕ → Answer
answer_at r k = cond (ltb k r.done) (cond (ltb k 16) (Done (counts_in (get_or r.rows k no_row))) r.answer) r.answer
