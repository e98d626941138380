use Rattle.given.specs.Given.{is_step}
use borrow.Author.Rules.{rules}
use Rattle.given.proofs.is_step.Goals as goal

pub returns : goal.returns
unfolding is_step
returns c = search rules
