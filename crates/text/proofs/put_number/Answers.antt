use Rattle.std.proofs.Common.{◌∙◌, arith}
use Rattle.text.specs.TextLaws.{fewest-decimal}
use Rattle.text.proofs.put_number.Goals as goal

pub returns-clause-put : goal.returns-clause-put
returns-clause-put c =
    let e = c.decimal-k.ensures.digits ∙ fewest-decimal c.args.n c.decimal-k.result (omega arith) c.decimal-k.ensures.len in
    rw e at c.put_run.ensures
