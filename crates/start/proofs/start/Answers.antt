use mathlib.Core.Path.{refl}
use native.Mathlib.Omega.{arith}
use Rattle.chain.specs.ChainLaws.{ready_on, chained-last, chained-on}
use Rattle.start.proofs.start.Goals as goal

pub returns-in_default-clause-chained : goal.returns-in_default-clause-chained
returns-in_default-clause-chained c = chained-last _ _ _ 0 _ _ _ c.in_default.ensures.cases refl c.step.ensures.stepped

pub chain-requires : goal.chain-requires
chain-requires c =
    let left = c.in-Some.ensures.cases.1 in
    ready_on _ 0 _ _ _ c.step-ran.ensures.stepped _ (omega arith)

pub returns-clause-chained : goal.returns-clause-chained
returns-clause-chained c = chained-on _ _ _ 0 _ _ _ c.in-Some.ensures.cases.0 refl c.step-ran.ensures.stepped c.chain.ensures.chained
