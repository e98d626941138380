use Rattle.std.proofs.Common.{◌≡◌, refl, ap, ◌∙◌, ◌+◌, ◌*◌, ◌∷◌, [], sym, arith}
use Rattle.std.proofs.lemmas.List.Edits.{sets}
use Rattle.writer.specs.File.{bytes_all}
use Rattle.writer.specs.Bytes.{put_one}
use Rattle.writer.specs.Puts.{put_item, put-none, put_all}
use Rattle.writer.proofs.put_each.Goals as goal

pub loop-i-init : goal.loop-i-init
loop-i-init g c h long word = put-none h c.args.items.now _ _

pub loop-i-preserved : goal.loop-i-preserved
loop-i-preserved g c h long word =
    put_item h 1 c.args.items.now c.index-items-i.result c.index-items-i.result _ _ _ c.args.from (c.args.from + 4 * c.loop-i.i) c.loop-i.i long (omega arith) (c.loop-i.invariant h long word) (omega arith) c.index-items-i.is
    (put_one _ _ _ _ c.put_word.ensures ∙ ap (λ z. sets c.loop-i.out (c.args.from + 4 * c.loop-i.i) (bytes_all z)) (word _ _ c.word.ensures))

pub returns : goal.returns
returns g c h long word = put_all h c.args.items.now _ _ _ c.loop-i.i (c.loop-i.invariant h long word) (omega arith)
