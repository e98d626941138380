use Rattle.std.proofs.Common.{rules, ◌+◌}
use Rattle.rule.specs.Rule.{inner}
use Rattle.rule.specs.Numbering.{vertices}
use Rattle.rule.proofs.rings.put_inner.Goals as goal

pub returns : goal.returns
unfolding inner
returns c =
    rw (c.ends-lo.ensures.value.0, c.ends-lo.ensures.value.1) at
    (c.put_ring.ensures (λ j. vertices c.args.numbering c.args.s (c.ends-lo.result.0 + j)) (λ j v h e. search rules))
