use Rattle.std.proofs.Common.{arith}
use Rattle.text.specs.TextLaws.{put-more}
use Rattle.text.proofs.put_run.Goals as goal

pub loop-b-preserved : goal.loop-b-preserved
loop-b-preserved c = put-more c.args.run.now c.loop-b.b-index (omega arith) c.loop-b.invariant c.put_byte-to.ensures
