use Rattle.runner.specs.RunLaws.{kept-on, zero-as, went-by}
use Rattle.runner.proofs.run.Goals as goal

pub returns : goal.returns
returns c =
    let ran = c.begin-ran.ensures in
    record {
      went = went-by _ _ _ _ _ _ _ ran.chained (zero-as c.wipe.ensures.zero ran.kept.first.size) (zero-as c.wipe-2.ensures.zero ran.kept.second.size);
      kept = record {
        first = kept-on ran.kept.first c.wipe.ensures.kept;
        second = kept-on ran.kept.second c.wipe-2.ensures.kept;
        output = ran.kept.output;
      };
    }
