use Rattle.std.specs.Prelude.{None}
use Rattle.std.proofs.Common.{◌≡◌, refl, ◌+◌, ◌*◌, take, arith}
use Rattle.steps.specs.declared.Step.TheVariants.{Ambo}
use Rattle.writer.specs.File.{step_words}
use Rattle.writer.specs.Items.{length-step}
use Rattle.writer.specs.Puts.{put_item, put-none, put_all}
use Rattle.writer.proofs.put_steps.Goals as goal

pub loop-i-init : goal.loop-i-init
loop-i-init c = put-none _ c.args.steps.now _ _

pub loop-i-preserved : goal.loop-i-preserved
loop-i-preserved c =
    put_item step_words 4 c.args.steps.now (Ambo None) _ _ _ _ c.args.from (c.args.from + 16 * c.loop-i.i) c.loop-i.i length-step (omega arith) c.loop-i.invariant (omega arith) refl c.put_step.ensures

pub returns : goal.returns
returns c = put_all step_words c.args.steps.now _ _ _ c.loop-i.i c.loop-i.invariant (omega arith)
