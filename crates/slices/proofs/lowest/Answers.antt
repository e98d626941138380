use Rattle.std.proofs.Common.{sym, ◌∙◌, arith}
use Rattle.slices.specs.First.{onward, lowest_at, lowest_past}
use Rattle.slices.proofs.lowest.Goals as goal

pub returns-then-test : goal.returns-then-test
returns-then-test g c p agree =
    lowest_at (c.loop-i.invariant p agree) (omega arith) (sym (agree _ _ (omega arith) c.test.ensures) ∙ c.if-test.true)

pub loop-i-preserved : goal.loop-i-preserved
loop-i-preserved g c p agree =
    onward (c.loop-i.invariant p agree) (omega arith) (sym (agree _ _ (omega arith) c.test.ensures) ∙ c.if-test.false)

pub returns : goal.returns
returns g c p agree = lowest_past (c.loop-i.invariant p agree) (omega arith)
