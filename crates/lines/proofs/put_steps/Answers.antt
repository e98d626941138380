use native.Mathlib.Omega.{arith}
use Rattle.text.specs.TextLaws.{put-length}
use Rattle.lines.specs.LineLaws.{upto-start, upto-on, upto-stop, upto-end}
use Rattle.lines.proofs.put_steps.Goals as goal

pub loop-k-init : goal.loop-k-init
loop-k-init c = upto-start _ _ _

pub put_refused-requires : goal.put_refused-requires
put_refused-requires c = omega (arith, c.loop-k.invariant.room, c.loop-k-test.true)

pub shape_of-text-in_default : goal.shape_of-text-in_default
shape_of-text-in_default c = omega (arith, put-length c.loop-k.invariant.put, put-length c.put_refused.ensures.put)

pub returns-in_default : goal.returns-in_default
returns-in_default c = record { put = upto-stop c.loop-k.invariant c.loop-k-test.true c.answer_at-answer.ensures c.in_default.is c.put_refused.ensures.put; upper_bound = omega (arith, c.loop-k.invariant.room, c.loop-k-test.true, c.put_refused.ensures.upper_bound) }

pub put_step-at-requires : goal.put_step-at-requires
put_step-at-requires c = omega (arith, c.loop-k.invariant.room, c.loop-k-test.true)

pub loop-k-smaller : goal.loop-k-smaller
loop-k-smaller c = omega (arith, c.loop-k-test.true)

pub loop-k-preserved : goal.loop-k-preserved
loop-k-preserved c = upto-on c.loop-k.invariant c.loop-k-test.true c.answer_at-answer.ensures c.in-Ok.is c.code_at.ensures c.put_step-at.ensures.put c.put_step-at.ensures.upper_bound

pub shape_of-text : goal.shape_of-text
shape_of-text c = put-length c.loop-k.invariant.put

pub returns : goal.returns
returns c = record { put = upto-end c.loop-k.invariant c.loop-k-test.false; upper_bound = omega (arith, c.loop-k.invariant.room, c.loop-k.invariant.few) }
