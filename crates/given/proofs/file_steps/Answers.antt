use Rattle.std.proofs.Common.{◌≡◌, ◌+◌, ◌≤◌, length, refl, arith, rules}
use Rattle.std.proofs.lemmas.Result.{err_from_is_err_and}
use Rattle.given.specs.Given.{four_at}
use Rattle.given.specs.GivenLaws.{file-stop, file-short, file-long, file-done}
use Rattle.given.proofs.file_steps.Goals as goal

pub returns-in_err-held : goal.returns-in_err-held
returns-in_err-held c =
    let p = err_from_is_err_and c.from_residual.result c.from_residual.ensures.1 in
    rw (p.1, p.2) (file-stop _ _ _ c.in_err-held.ensures refl)

pub returns-then-out-many : goal.returns-then-out-many
returns-then-out-many c = rw c.at.ensures (file-short _ _ _ _ c.in_ok-held.ensures refl refl (omega arith))

pub put_run-requires-clause-callable : goal.put_run-requires-clause-callable
put_run-requires-clause-callable c at h l =
    let w = file-long _ _ c.in_ok-held.held.steps c.in_ok-held.ensures refl refl in
    let b : at + 16 ≤ length c.args.bytes.now = omega (arith, w, h, l) in
    search rules

pub returns : goal.returns
returns c = file-done _ _ _ _ c.in_ok-held.ensures refl refl _ (omega arith) (c.put_run.ensures (four_at c.args.bytes.now) (λ at x h l e. search rules))
