use Rattle.std.proofs.Common.{sym, ◌∙◌}
use Rattle.rule.specs.Numbering.{vertices}
use Rattle.rule.specs.Output.{put_none}
use Rattle.rule.specs.Slots.{made_long}
use Rattle.rule.specs.Wrote.{room-one}
use Rattle.rule.proofs.rings.put_up.Goals as goal

pub put_face-requires-clause-space : goal.put_face-requires-clause-space
put_face-requires-clause-space c =
    room-one _ (made_long (vertices c.args.numbering) c.args.slots.now c.args.c) (rw (sym c.up_of.ensures ∙ c.if-up_of.true) at c.requires.room)

pub returns-else-up_of : goal.returns-else-up_of
returns-else-up_of c = rw (sym c.up_of.ensures ∙ c.if-up_of.false) (put_none _)
