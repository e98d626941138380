use Rattle.rule.specs.Rule.{old}
use Rattle.rule.specs.Numbering.{vertices}
use Rattle.rule.specs.Faces.{length-inner}
use Rattle.rule.specs.Wrote.{room-one}
use Rattle.rule.specs.declared.Move.TheVariants.{Here}
use Rattle.sections.proofs.put_pick.Goals as goal

pub put_inner-requires-clause-space : goal.put_inner-requires-clause-space
put_inner-requires-clause-space c =
    room-one _ (length-inner (vertices c.args.numbering) c.args.numbering.offsets.now (old Here) c.args.f) (rw c.if-hit.false at c.requires.room)
