use mathlib.Core.Path.{refl, sym}
use native.Mathlib.Omega.{arith}
use Rattle.std.proofs.lemmas.Result.{err_from_is_err_and}
use Rattle.parts.specs.Laws.{faces-stop, faces-on, faces-end, section-has}
use Rattle.parts.proofs.check_faces.Goals as goal

pub returns-in_err-a : goal.returns-in_err-a
returns-in_err-a c =
    let p = err_from_is_err_and c.from_residual.result c.from_residual.ensures.1 in
    rw (p.1, p.2) (faces-stop _ _ _ _ _ _ _ _ _ c.loop.invariant.2 (omega arith) c.in_err-a.ensures refl)

pub overflow_add-sum : goal.overflow_add-sum
overflow_add-sum c = let h = (section-has _ _ _ _ _ _ (sym c.in_ok-a.ensures)).1 in omega (arith, h)

pub loop-preserved : goal.loop-preserved
loop-preserved c =
    let h = (section-has _ _ _ _ _ _ (sym c.in_ok-a.ensures)).1 in
    (omega (arith, h), omega (arith, h), faces-on _ _ _ _ _ _ _ _ _ c.loop.invariant.2 (omega arith) c.items_part.ensures c.in_ok-a.was refl)

pub returns : goal.returns
returns c = faces-end _ _ _ _ _ _ c.loop.invariant.2 (omega arith)
