use native.Mathlib.Omega.{arith}
use Rattle.called.specs.CalledLaws.{enters-many, enters-strange, enters-plain}
use Rattle.called.proofs.recipe.Goals as goal

pub returns-then-steps-gt16 : goal.returns-then-steps-gt16
returns-then-steps-gt16 c = enters-many _ _ _ c.refuse.ensures.first c.refuse.ensures.second c.if-steps-gt16.true (rw c.at.ensures at c.refuse.ensures.answer)

pub returns-in-Some : goal.returns-in-Some
returns-in-Some c =
    let refuse = c.refuse-in-Some.ensures in
    enters-strange _ _ _ refuse.first refuse.second _ c.in-Some.ensures (rw c.at-in-Some.ensures at refuse.answer)

pub returns : goal.returns
returns c = enters-plain _ _ _ c.in_default.ensures c.steps_of-list.ensures (omega (arith, c.if-steps-gt16.false)) c.recipe_flat.ensures
