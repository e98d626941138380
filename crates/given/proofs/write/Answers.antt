use Rattle.std.proofs.Common.{refl, arith, rules, ◌≤◌, length}
use Rattle.given.specs.GivenLaws.{wrote-strange, wrote-few, wrote-many}
use Rattle.given.proofs.write.Goals as goal

pub returns-in-Some : goal.returns-in-Some
returns-in-Some c = rw c.at.ensures (wrote-strange _ _ _ _ _ c.in-Some.ensures)

pub returns-then-steps-gt16 : goal.returns-then-steps-gt16
returns-then-steps-gt16 c = wrote-many _ _ _ _ _ _ _ _ c.in_default.ensures (omega arith) (omega arith) c.write.ensures

pub returns : goal.returns
returns c =
    let h : length c.args.steps.now ≤ length c.steps_of-list.result = search rules in
    wrote-few _ _ _ _ _ _ _ c.in_default.ensures c.steps_of-list.ensures h c.write-2.ensures
