-- Laws of the operators' plans that no proof of its crate calls: a call of a plan is a call of its operator, and a plan that is written out can be carried out. Assumes nothing.
use Rattle.std.specs.Prelude.{◌≡◌, true, List, ℕ, length, Float}
use Rattle.std.proofs.Common.{sym, ◌∙◌, ap, subst}
use Rattle.mesh.specs.Tests.{Test, verdict}
use Rattle.mesh.specs.Verdict.{Verdict}
use Rattle.engine.specs.Result.{Outcome, outcome, Came}
use Rattle.engine.specs.Plan.{plan_outcome}
use Rattle.engine.specs.Known.{Ruled}
use Rattle.engine.specs.Answer.{Answer}
use Rattle.engine.specs.declared.Plan.{Plan}
use Rattle.engine.specs.declared.Asks.{Asks}
use Rattle.operators.specs.PlanLaws.{Makes, is-outcome}
use Rattle.laws.specs.EngineKnown.{fits, ruled}

-- a call of a plan is a call of its operator, from the parts as the code has them; v is the verdict of the operator's own tests
pub came :
    {p q : Plan} {l n o k : List ℕ} {x : List Float} {a : Asks} {fs : List (List ℕ)} {xs : List Float} {v : Verdict} (own : List Test)
    {r : Answer} {u w u' w' : List ℕ} {y y' : List Float} →
    q ≡ p → Makes p l n o k x a fs xs → v ≡ verdict own → Came (plan_outcome q l n o k x v (length u) (length w) (length y)) u w y r u' w' y' →
    Came (outcome a o k x own fs xs (length u) (length w) (length y)) u w y r u' w' y'
came {p} {q} {l} {n} {o} {k} {x} {a} {fs} {xs} {v} own {r} {u} {w} {u'} {w'} {y} {y'} f m e c =
    subst (λ (z : Outcome). Came z u w y r u' w' y')
    (ap (λ (z : Plan). plan_outcome z l n o k x v (length u) (length w) (length y)) f ∙ is-outcome own (length u) (length w) (length y) m e) c

-- a plan that is written out can be carried out
pub carried : {p q : Plan} → q ≡ p → fits p ≡ true → Ruled q
carried {p} {q} e f = subst Ruled (sym e) (ruled p f)
