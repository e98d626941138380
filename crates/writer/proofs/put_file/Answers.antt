use Rattle.std.proofs.Common.{◌≡◌, refl, sym, ◌∙◌, ap, le_refl, length, arith, rules}
use Rattle.std.proofs.lemmas.List.Edits.{sets}
use lib.Seq.{take-length}
use Rattle.writer.specs.File.{flat_map, step_words, float_words, bytes_all}
use Rattle.writer.specs.Items.{length_float}
use Rattle.writer.specs.Puts.{put-file}
use Rattle.writer.proofs.put_file.Goals as goal

pub put_faces-requires : goal.put_faces-requires
put_faces-requires c = record { shaped = c.requires.shaped; corners_in_bounds = (omega (arith, c.requires.fits, c.requires.shaped.some, c.put_word.auto.out, c.put_steps.auto.out, c.put_word-2.auto.out, c.put_each.auto.out, c.put_word-3.auto.out), c.requires.corners) }

pub returns : goal.returns
unfolding float_words
returns c =
    put-file c.args.steps.now (length c.args.steps.now) _ _ _ _ _ _ _ _ _ _ _ _ _ (le_refl _) refl refl refl c.put_word.ensures
    (c.put_steps.ensures ∙ ap (λ l. sets c.put_word.new.out 4 (bytes_all (flat_map step_words l))) (sym (take-length c.args.steps.now))) c.put_word-2.ensures
    (c.put_each.ensures float_words length_float (λ x n e. search rules)) c.put_word-3.ensures c.put_faces.ensures
