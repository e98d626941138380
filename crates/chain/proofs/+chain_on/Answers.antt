use lib.ListN.{length}
use native.Mathlib.Omega.{arith}
use Rattle.chain.specs.ChainLaws.{spans, ready_on, chained-stop, chained-from, chained-last, chained-on}
use Rattle.chain.proofs.+chain_on.Goals as goal

pub returns-in_default-clause-chained : goal.returns-in_default-clause-chained
returns-in_default-clause-chained t c = chained-last _ _ _ _ _ _ _ c.in_default.ensures.cases c.front-mesh.ensures c.step.ensures.stepped

pub returns-in_default-answer-clause-chained : goal.returns-in_default-answer-clause-chained
returns-in_default-answer-clause-chained t c =
    chained-on _ _ _ _ _ _ _ c.in-Some.ensures.cases.0 c.front-mesh.ensures c.step-ran.ensures.stepped (chained-stop _ c.in_default-answer.is)

pub extent_in-e-requires : goal.extent_in-e-requires
extent_in-e-requires t c =
    let left = c.in-Some.ensures.cases.1 in
    let ready = rw c.in-Ok.is at (ready_on _ _ _ _ _ c.step-ran.ensures.stepped (length c.in-Some.rest.now) (omega (arith, c.requires.most))) in
    ready.within

pub chain_on-requires : goal.chain_on-requires
chain_on-requires t c =
    let left = c.in-Some.ensures.cases.1 in
    let ready = rw c.in-Ok.is at (ready_on _ _ _ _ _ c.step-ran.ensures.stepped (length c.in-Some.rest.now) (omega (arith, c.requires.most))) in
    (omega arith, (omega (arith, ready.most), spans c.extent_in-e.ensures ready.within))

pub returns-clause-chained : goal.returns-clause-chained
returns-clause-chained t c =
    chained-on _ _ _ _ _ _ _ c.in-Some.ensures.cases.0 c.front-mesh.ensures c.step-ran.ensures.stepped
    (chained-from _ c.in-Ok.is (rw c.extent_in-e.ensures at c.chain_on.ensures.chained))
