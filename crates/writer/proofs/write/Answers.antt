use Rattle.std.proofs.Common.{refl, le_refl}
use Rattle.std.proofs.lemmas.Result.{err_from_is_err_and}
use Rattle.writer.specs.Puts.{written_is, filing-is, wrote-stop, wrote-done}
use Rattle.writer.proofs.write.Goals as goal

pub returns-in_err-written : goal.returns-in_err-written
returns-in_err-written c =
    let p = err_from_is_err_and c.from_residual.result c.from_residual.ensures.1 in
    rw (p.1, p.2) (wrote-stop _ _ _ _ _ _ _ (written_is c.args.steps.now _ _ _ _ _ _ _ _ (λ h. le_refl _) c.check_size-size.ensures c.limits-fit.ensures c.in_err-written.ensures) refl)

pub put_file-requires : goal.put_file-requires
put_file-requires c = filing-is _ _ _ _ _ _ _ _ c.check_size-size.ensures c.limits-fit.ensures c.in_ok-written.ensures refl

pub returns : goal.returns
returns c =
    wrote-done c.args.steps.now _ _ _ _ _ _ _ (λ h. le_refl _) (written_is c.args.steps.now _ _ _ _ _ _ _ _ (λ h. le_refl _) c.check_size-size.ensures c.limits-fit.ensures c.in_ok-written.ensures) refl
    (filing-is _ _ _ _ _ _ _ _ c.check_size-size.ensures c.limits-fit.ensures c.in_ok-written.ensures refl) c.put_file.ensures
