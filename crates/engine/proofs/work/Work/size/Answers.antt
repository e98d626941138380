use Rattle.engine.specs.WorkLaws.{size_is}
use Rattle.engine.specs.Laws.{coords-by}
use Rattle.engine.proofs.work.Work.size.Goals as goal

pub returns : goal.returns
returns c =
    size_is c.args.self _ _ _ c.section_size-one.ensures c.section_size-two.ensures
    (coords-by c.args.self.plan c.args.self.masks.arities.now c.args.self.masks.numbers.now c.args.self.mesh.offsets.now c.args.self.mesh.corners.now c.args.self.mesh.coords.now _ _ _
    c.width.ensures.value c.width-2.ensures.value c.width-3.ensures.value)
