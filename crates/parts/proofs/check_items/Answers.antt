use mathlib.Core.Path.{refl}
use native.Mathlib.Omega.{arith}
use Rattle.std.proofs.lemmas.Result.{err_from_is_err_and}
use Rattle.parts.specs.Laws.{items-stop, items-on, items-end}
use Rattle.parts.proofs.check_items.Goals as goal

pub returns-in_err-says : goal.returns-in_err-says
returns-in_err-says g c say agree =
    let p = err_from_is_err_and c.from_residual.result c.from_residual.ensures.1 in
    rw (p.1, p.2) (items-stop _ _ _ _ _ _ _ _ _ (c.loop.invariant.1 say agree) (omega arith) (agree _ _ (omega arith) c.in_err-says.ensures) refl)

pub loop-preserved : goal.loop-preserved
loop-preserved g c =
    (omega arith, λ say agree. items-on _ _ _ _ _ _ _ _ (c.loop.invariant.1 say agree) (omega arith) (agree _ _ (omega arith) c.says.ensures) c.in_ok-says.was)

pub returns : goal.returns
returns g c say agree = items-end _ _ _ _ _ _ (c.loop.invariant.1 say agree) (omega arith)
