use Rattle.writer.specs.Puts.{put-words-4}
use Rattle.writer.proofs.put_four.Goals as goal

pub returns : goal.returns
returns c = put-words-4 _ _ _ _ _ _ _ _ _ _ c.put_word.ensures c.put_word-2.ensures c.put_word-3.ensures c.put_word-4.ensures
