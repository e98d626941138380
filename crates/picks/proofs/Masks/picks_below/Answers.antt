use Rattle.picks.specs.Laws.{count_range}
use Rattle.std.proofs.Common.{◌∙◌, arith, rules, tests}
use Rattle.std.proofs.lemmas.Iterator.{YieldsList-from_range}
use Rattle.std.proofs.lemmas.Iterator.Consumers.{YieldsList-from_filter, count_from_yields_List}
use Rattle.picks.specs.Picks.{picked}
use Rattle.picks.proofs.Masks.picks_below.Goals as goal

pub returns : goal.returns
returns c =
    count_from_yields_List _ _ c.count.ensures.ran (YieldsList-from_filter _ (picked c.args.self.mask c.args.self.arities.now c.args.self.numbers.now c.args.mesh.offsets.now c.args.mesh.corners.now c.args.mesh.coords.now) (YieldsList-from_range 0 c.args.stop c.args.stop (cc) (omega arith)) c.filter.ensures.closure (λ x b q k. search (rules, tests)))
    ∙ count_range _ c.args.stop
