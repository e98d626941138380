use Rattle.std.proofs.Common.{le_refl}
use Rattle.chain.specs.Lent.{shown}
use Rattle.ledger.specs.Finished.{went-own}
use Rattle.ledger.proofs.recorded.Goals as goal

pub returns : goal.returns
returns c = went-own c.args.steps.now _ (shown c.args.input) (λ h. le_refl _) c.blank_rows-rows.ensures c.recipe-answer.ensures (cc)
