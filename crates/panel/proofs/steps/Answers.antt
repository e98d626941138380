use Rattle.std.proofs.Common.{◌≡◌, ℕ, ◌+◌, ◌≤◌, sym, ap, refl, length, arith, rules}
use Rattle.panel.specs.Format.{step_at, fillers}
use Rattle.panel.specs.Written.{step_count, store-none}
use Rattle.panel.specs.Whole.{known_fine, steps_all}
use Rattle.panel.proofs.steps.Goals as goal

pub returns-in_default : goal.returns-in_default
returns-in_default c = steps_all _ _ 0 0 _ c.check.ensures (sym (ap step_count c.in_default.is)) refl (store-none (step_at c.args.bytes.now) 16 4 0 fillers)

pub put_run-requires-clause-room : goal.put_run-requires-clause-room
put_run-requires-clause-room c = let k = known_fine _ c.in-Ok.ensures in omega (arith, k.few-steps)

pub put_run-requires-clause-callable : goal.put_run-requires-clause-callable
put_run-requires-clause-callable c at h l =
    let k = known_fine _ c.in-Ok.ensures in
    let b : at + 16 ≤ length c.args.bytes.now = omega (arith, k.long, h, l) in
    search rules

pub returns : goal.returns
returns c = steps_all _ _ _ _ _ c.check.ensures (sym (ap step_count c.in-Ok.is)) refl (c.put_run.ensures (step_at c.args.bytes.now) (λ at x h l e. search rules))
