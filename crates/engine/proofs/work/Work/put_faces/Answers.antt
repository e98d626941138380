use Rattle.std.proofs.Common.{rules, arith}
use Rattle.rule.specs.Wrote.{wrote-whole}
use Rattle.engine.specs.Plan.{plan_faces}
use Rattle.engine.specs.Work.{of_work}
use Rattle.engine.proofs.work.Work.put_faces.Goals as goal

pub returns : goal.returns
returns c =
    let fs = of_work plan_faces c.args.self in
    let w = wrote-whole c.args.offsets.now c.args.corners.now _ _ _ fs (omega (arith, c.requires.offs-room)) (omega (arith, c.requires.cors-room)) c.put_sections.ensures.wrote in
    record { offsets_after = search (rules, w.0); corners_after = search (rules, w.1) }
