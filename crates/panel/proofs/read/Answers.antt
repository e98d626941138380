use Rattle.std.proofs.Common.{◌≡◌, ℕ, ◌+◌, ◌*◌, ◌≤◌, sym, refl, length, arith, rules}
use Rattle.std.proofs.lemmas.Result.{err_from_is_err_and}
use Rattle.panel.specs.Format.{float_at}
use Rattle.panel.specs.Whole.{read-stop, read_fits, read-placed, read_done}
use Rattle.panel.proofs.read.Goals as goal

pub returns-in_err-check-clause-read : goal.returns-in_err-check-clause-read
returns-in_err-check-clause-read c =
    let p = err_from_is_err_and c.from_residual.result c.from_residual.ensures.1 in
    rw (p.1, p.2) (read-stop _ _ _ _ _ _ c.in_err-check.ensures refl refl)

pub returns-in_err-held-clause-read : goal.returns-in_err-held-clause-read
returns-in_err-held-clause-read c =
    let p = err_from_is_err_and c.from_residual-in_err-held.result c.from_residual-in_err-held.ensures.1 in
    rw (p.1, p.2) (read-stop _ _ _ _ _ _ c.in_ok-check.ensures c.in_err-held.ensures refl)

pub put_run-requires-clause-callable : goal.put_run-requires-clause-callable
put_run-requires-clause-callable c at h l =
    let t = read_fits _ _ _ _ _ _ c.in_ok-check.ensures c.in_ok-held.ensures refl in
    let b : at + 4 ≤ length c.args.bytes.now = omega (arith, t.known.long, h, l) in
    search rules

pub put_faces-requires : goal.put_faces-requires
put_faces-requires c = read-placed _ _ _ _ _ _ (read_fits _ _ _ _ _ _ c.in_ok-check.ensures c.in_ok-held.ensures refl) refl refl refl

pub returns-clause-read : goal.returns-clause-read
returns-clause-read c =
    read_done _ _ _ _ _ _ _ _ _ _ _ _ c.in_ok-check.ensures c.in_ok-held.ensures refl refl refl refl
    (c.put_run.ensures (float_at c.args.bytes.now) (λ at x h l e. search rules)) c.put_faces.ensures
