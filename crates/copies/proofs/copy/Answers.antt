use mathlib.Core.Path.{refl}
use Rattle.copies.specs.CopyLaws.{copy_refused, copy_done}
use Rattle.copies.proofs.copy.Goals as goal

pub returns-in_err-check_copy : goal.returns-in_err-check_copy
returns-in_err-check_copy c = copy_refused c.args.mesh c.args.out.now _ _ _ c.check_copy.ensures.value c.in_err-check_copy.was c.from_residual.ensures.1

pub returns : goal.returns
returns c =
    copy_done c.args.mesh c.args.out.now _ _ _ c.check_copy.ensures.value c.in_ok-check_copy.was c.in_ok-check_copy.ensures.fits c.counts_of.ensures
    c.copy_to_front.ensures c.copy_to_front-2.ensures c.copy_to_front-3.ensures (record { offsets = refl; corners = refl; coords = refl })
