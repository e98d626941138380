use native.Mathlib.Omega.{arith}
use borrow.Author.Tests.{ne_eqb}
use Rattle.lines.specs.Told.{run_lines}
use Rattle.lines.proofs.put_lines.Goals as goal

pub returns-then-n-eq0 : goal.returns-then-n-eq0
unfolding run_lines
returns-then-n-eq0 c = record { put = rw c.if-n-eq0.true c.put_refused.ensures.put; upper_bound = omega (arith, c.put_refused.ensures.upper_bound) }

pub returns : goal.returns
unfolding run_lines
returns c = record { put = rw (ne_eqb _ 0 c.if-n-eq0.false) c.put_steps.ensures.put; upper_bound = c.put_steps.ensures.upper_bound }
