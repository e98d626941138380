use mathlib.Core.Path.{refl, sym}
use native.Mathlib.Omega.{arith}
use Rattle.std.proofs.Common.{rules}
use Rattle.std.proofs.lemmas.Result.{err_from_is_err_and}
use Rattle.parts.specs.Parts.{whole_says}
use Rattle.parts.specs.Laws.{section-cut, section-stop, section-done, count-has}
use Rattle.parts.proofs.items_part.Goals as goal

pub returns-in_err-n : goal.returns-in_err-n
returns-in_err-n c =
    let p = err_from_is_err_and c.from_residual.result c.from_residual.ensures.1 in
    rw (p.1, p.2) (section-cut _ _ _ _ _ _ c.in_err-n.ensures refl)

pub check_items-requires-clause-bounds : goal.check_items-requires-clause-bounds
check_items-requires-clause-bounds c = let h = (count-has _ _ _ _ (sym c.in_ok-n.ensures)).1 in omega (arith, h)

pub returns-in_err-check_items : goal.returns-in_err-check_items
returns-in_err-check_items c =
    let p = err_from_is_err_and c.from_residual-in_err-check_items.result c.from_residual-in_err-check_items.ensures.1 in
    rw (p.1, p.2) (section-stop _ _ _ _ _ _ _ _ c.count_at.ensures c.in_ok-n.was refl (c.in_err-check_items.ensures (whole_says c.args.bytes.now c.args.size) (λ at r h e. search rules)) refl)

pub returns : goal.returns
returns c = section-done _ _ _ _ _ _ _ _ c.in_ok-n.ensures refl refl (c.check_items.ensures (whole_says c.args.bytes.now c.args.size) (λ at r h e. search rules)) c.in_ok-check_items.was
