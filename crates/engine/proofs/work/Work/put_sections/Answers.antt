use Rattle.engine.specs.WorkLaws.{room_one, room_two, put_both}
use Rattle.engine.proofs.work.Work.put_sections.Goals as goal

pub put_section-requires-clause-room : goal.put_section-requires-clause-room
put_section-requires-clause-room c = room_one c.args.self c.args.out.now _ c.bases-bases.ensures.value c.requires

pub put_section-requires-2-clause-room : goal.put_section-requires-2-clause-room
put_section-requires-2-clause-room c = room_two c.args.self c.args.out.now _ c.bases-bases.ensures.value c.requires _ c.put_section.ensures

pub returns : goal.returns
returns c = put_both c.args.self c.args.out.now _ c.bases-bases.ensures.value c.requires _ _ c.put_section.ensures c.put_section-2.ensures
