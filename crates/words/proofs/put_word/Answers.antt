use Rattle.std.proofs.Common.{◌∙◌, arith}
use Rattle.words.specs.Words.{bytes_put}
use Rattle.words.proofs.put_word.Goals as goal

pub returns : goal.returns
returns c = bytes_put _ _ c.args.at _ c.args.w (omega arith) c.requires c.ranges.w.fits (c.copy_from_slice.ensures.after ∙ c.to_le_bytes.ensures)
