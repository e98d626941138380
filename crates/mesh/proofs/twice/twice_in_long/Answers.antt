use Rattle.std.proofs.Common.{sym, ◌∙◌, arith}
use Rattle.mesh.specs.Twice.{unseen-more, unseen-all, seen-there}
use Rattle.mesh.proofs.twice.twice_in_long.Goals as goal

pub returns-then-twice_from : goal.returns-then-twice_from
returns-then-twice_from c = seen-there _ _ _ (sym c.twice_from.ensures ∙ c.if-twice_from.true)

pub loop-low-preserved : goal.loop-low-preserved
loop-low-preserved c = unseen-more _ _ _ c.loop-low.invariant (sym c.twice_from.ensures ∙ c.if-twice_from.false)

pub returns : goal.returns
returns c = unseen-all c.args.run.now _ _ c.loop-low.invariant c.requires.inside (omega arith)
