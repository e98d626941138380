use Rattle.writer.specs.Puts.{put_step}
use Rattle.writer.proofs.put_step.Goals as goal

pub returns : goal.returns
returns c = put_step _ _ _ _ _ _ _ _ _ _ c.put_four.ensures c.code.ensures c.ratio_in-t.ensures c.height_in-h.ensures c.flags_of.ensures c.bits_in.ensures c.bits_in-2.ensures
