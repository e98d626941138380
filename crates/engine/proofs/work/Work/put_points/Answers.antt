use Rattle.engine.specs.WorkLaws.{laid_all}
use Rattle.engine.proofs.work.Work.put_points.Goals as goal

pub returns : goal.returns
returns c = laid_all c.args.self c.args.out.now _ _ _ _ _ _ c.requires c.put-first.ensures c.put-second.ensures c.put.ensures
