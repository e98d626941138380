use Rattle.std.proofs.Common.{◌≡◌, ℕ, ◌+◌, ◌*◌, ◌≤◌, ◌∙◌, ap, add-one, arith, rules}
use Rattle.std.proofs.Math.Nat.{mul-suc, mul-le-mul_left}
use Rattle.panel.specs.Written.{store-none, store-more}
use Rattle.panel.proofs.put_run.Goals as goal

pub loop-i-init : goal.loop-i-init
loop-i-init g c = (omega arith, λ h agree. store-none h _ _ _ _)

pub loop-i-preserved : goal.loop-i-preserved
loop-i-preserved g c =
    let e : c.args.size * (c.loop-i.i + 1) ≡ c.args.size * c.loop-i.i + c.args.size = ap (λ m. c.args.size * m) (add-one c.loop-i.i) ∙ mul-suc c.args.size c.loop-i.i in
    let w : c.args.size * (c.loop-i.i + 1) ≤ c.args.size * c.args.n = mul-le-mul_left c.args.size (omega arith) in
    let p : c.loop-i.at ≡ c.args.from + c.args.size * c.loop-i.i = c.loop-i.invariant.0 in (
      omega (arith, e, p),
      λ h agree.
          store-more h _ _ _ _ _ _ _ (c.loop-i.invariant.1 h agree) (agree _ _ (omega (arith, p)) (omega (arith, e, w, p)) c.read.ensures ∙ ap h p),
    )
