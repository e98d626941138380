use Rattle.std.proofs.Common.{refl, arith}
use Rattle.given.specs.GivenLaws.{take_none, take_more, take_done}
use Rattle.given.proofs.steps_of.Goals as goal

pub loop-i-init : goal.loop-i-init
loop-i-init c = take_none c.args.steps.now _

pub loop-i-preserved : goal.loop-i-preserved
loop-i-preserved c = take_more c.args.steps.now c.loop-i.i _ _ _ (omega (arith, c.few-n.ensures)) c.loop-i.invariant c.from_words.ensures

pub returns : goal.returns
returns c = take_done _ c.loop-i.i c.few-n.result _ (omega arith) c.few-n.ensures c.loop-i.invariant
