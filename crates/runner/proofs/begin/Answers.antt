use Rattle.runner.specs.RunLaws.{run-many, none-whole, list-whole}
use Rattle.runner.proofs.begin.Goals as goal

pub returns-then-steps-gt16-clause-chained : goal.returns-then-steps-gt16-clause-chained
returns-then-steps-gt16-clause-chained c = run-many _ _ _ _ _ _ _ c.if-steps-gt16.true (rw (c.into.ensures, c.at.ensures) at c.none_done.ensures)

pub returns-in_default-clause-chained : goal.returns-in_default-clause-chained
returns-in_default-clause-chained c = none-whole _ _ _ _ _ c.in_default.ensures.cases c.copy.ensures.came c.none_done-in_default.ensures

pub returns-clause-chained : goal.returns-clause-chained
returns-clause-chained c = list-whole _ _ _ _ _ c.if-steps-gt16.false c.in-Some.ensures.cases.0 (rw c.blank_rows.ensures at c.start.ensures.chained)
