use Rattle.called.specs.CalledLaws.{lists-known, lists-unknown}
use Rattle.called.proofs.list.Goals as goal

pub returns-in_default : goal.returns-in_default
returns-in_default c = lists-unknown _ _ _ _ _ _ _ c.refuse.ensures.first c.refuse.ensures.second c.in_default.ensures (rw c.at.ensures at c.refuse.ensures.answer)

pub returns : goal.returns
returns c = lists-known _ _ _ _ _ _ _ c.in-Some.ensures c.list.ensures
