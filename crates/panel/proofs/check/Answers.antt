use mathlib.Core.Path.{refl, sym}
use native.Mathlib.Omega.{arith}
use Rattle.std.proofs.lemmas.Result.{err_from_is_err_and}
use Rattle.parts.specs.Laws.{section-has, count-has}
use Rattle.panel.specs.Laws.{faces-has}
use Rattle.panel.specs.Whole.{steps-stop, steps_on, positions-stop, positions-on, count-stop, count-on, corners-stop, corners-on}
use Rattle.panel.proofs.check.Goals as goal

pub returns-in_err-steps : goal.returns-in_err-steps
returns-in_err-steps c =
    let p = err_from_is_err_and c.from_residual.result c.from_residual.ensures.1 in
    rw (p.1, p.2) (steps-stop _ _ _ c.in_err-steps.ensures refl refl)

pub items_part-requires : goal.items_part-requires
items_part-requires c = let h = (section-has _ _ _ _ _ _ (sym c.in_ok-steps.ensures)).1 in omega (arith, h)

pub returns-in_err-positions : goal.returns-in_err-positions
returns-in_err-positions c =
    let p = err_from_is_err_and c.from_residual-in_err-positions.result c.from_residual-in_err-positions.ensures.1 in
    rw (p.1, p.2) (steps_on _ _ _ c.in_ok-steps.ensures refl (positions-stop _ _ _ _ c.in_err-positions.ensures refl refl))

pub count_at-requires : goal.count_at-requires
count_at-requires c =
    let h = (section-has _ _ _ _ _ _ (sym c.in_ok-steps.ensures)).1 in
    let l = (section-has _ _ _ _ _ _ (sym c.in_ok-positions.ensures)).1 in
    omega (arith, h, l)

pub returns-in_err-faces : goal.returns-in_err-faces
returns-in_err-faces c =
    let p = err_from_is_err_and c.from_residual-in_err-faces.result c.from_residual-in_err-faces.ensures.1 in
    rw (p.1, p.2) (
    steps_on _ _ _ c.in_ok-steps.ensures refl (
    positions-on _ _ _ _ c.in_ok-positions.ensures refl (
    count-stop _ _ _ _ _ c.in_err-faces.ensures refl refl)))

pub check_faces-requires : goal.check_faces-requires
check_faces-requires c =
    let h = (section-has _ _ _ _ _ _ (sym c.in_ok-steps.ensures)).1 in
    let l = (section-has _ _ _ _ _ _ (sym c.in_ok-positions.ensures)).1 in
    let m = (count-has _ _ _ _ (sym c.in_ok-faces.ensures)).1 in
    omega (arith, h, l, m)

pub returns-in_err-corners : goal.returns-in_err-corners
returns-in_err-corners c =
    let p = err_from_is_err_and c.from_residual-in_err-corners.result c.from_residual-in_err-corners.ensures.1 in
    rw (p.1, p.2) (
    steps_on _ _ _ c.in_ok-steps.ensures refl (
    positions-on _ _ _ _ c.in_ok-positions.ensures refl (
    count-on _ _ _ _ _ c.in_ok-faces.ensures refl (
    corners-stop _ _ _ _ _ _ c.in_err-corners.ensures refl refl))))

pub ending_of-requires : goal.ending_of-requires
ending_of-requires c = (
  (section-has _ _ _ _ _ _ (sym c.in_ok-steps.ensures)).1,
  (section-has _ _ _ _ _ _ (sym c.in_ok-positions.ensures)).1,
  (count-has _ _ _ _ (sym c.in_ok-faces.ensures)).1,
  (faces-has _ _ 0 _ _ (omega arith) (sym c.in_ok-corners.ensures)).1,
)

pub returns : goal.returns
returns c =
    steps_on _ _ _ c.in_ok-steps.ensures refl (
    positions-on _ _ _ _ c.in_ok-positions.ensures refl (
    count-on _ _ _ _ _ c.in_ok-faces.ensures refl (
    corners-on _ _ _ _ _ _ c.in_ok-corners.ensures refl c.ending_of.ensures)))
