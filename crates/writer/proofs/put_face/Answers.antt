use Rattle.std.proofs.Common.{◌≡◌, refl, ◌+◌, ◌∙◌, ap, rules}
use Rattle.std.proofs.lemmas.List.Edits.{sets}
use Rattle.writer.specs.File.{bytes_all}
use Rattle.writer.specs.Puts.{put-face, one_word, length-one, one_each}
use Rattle.writer.proofs.put_face.Goals as goal

pub returns : goal.returns
unfolding one_word
returns c =
    put-face _ _ _ _ _ _ refl c.put_word.ensures
    (c.put_each.ensures one_word length-one (λ x n e. search rules) ∙ ap (λ z. sets c.put_word.new.out (c.args.at + 4) (bytes_all z)) (one_each c.args.run.now))
