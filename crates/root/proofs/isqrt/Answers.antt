use Rattle.std.specs.Prelude.{◌≡◌, ℕ, ◌+◌, ◌-◌}
use Rattle.std.proofs.Common.{arith}
use Rattle.root.proofs.Digits.{start, yes-step, no_step, square-fits, done, under}
use Rattle.root.proofs.isqrt.Goals as goal
use Rattle.root.proofs.isqrt.Goals.{then-t-n, else-t-n}

left : (k : ℕ) → 26 - (k + 1) ≡ 26 - k - 1
left k = omega arith

pub loop-k-init : goal.loop-k-init
loop-k-init c = start _

pub overflow_mul-t : goal.overflow_mul-t
overflow_mul-t c = record { fits = square-fits _ (omega arith) }

pub loop-k-preserved : goal.loop-k-preserved
loop-k-preserved c =
    rw left
    (elim c.if-t-n.branch [
      | then-t-n w ↦ rw w.s-is (yes-step _ _ _ _ c.loop-k.invariant (omega arith) w.if-t-n.true)
      | else-t-n w ↦ rw w.s-is (no_step _ _ _ _ c.loop-k.invariant (omega arith) w.if-t-n.false)
    ])

pub returns-clause-value : goal.returns-clause-value
returns-clause-value c = done _ _ _ _ c.loop-k.invariant (omega arith)

pub returns-clause-upper_bound : goal.returns-clause-upper_bound
returns-clause-upper_bound c = under _ _ _ _ c.loop-k.invariant
