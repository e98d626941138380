use Rattle.std.proofs.Common.{[]}
use Rattle.rule.specs.Wrote.{room_as}
use Rattle.rule.specs.Output.{put_as}
use Rattle.rule.specs.Sections.{same-section, no_mask, not_picks}
use Rattle.sections.proofs.put_section.Goals as goal

pub put_places-requires-clause-room : goal.put_places-requires-clause-room
put_places-requires-clause-room c =
    room_as (same-section c.args.s c.args.bases _ no_mask _ _ [] [] _ _ _ (not_picks _ c.in_default.not-Picks)) c.requires.room

pub returns-in_default : goal.returns-in_default
returns-in_default c =
    put_as (same-section c.args.s c.args.bases _ no_mask _ _ [] [] _ _ _ (not_picks _ c.in_default.not-Picks)) c.put_places.ensures
