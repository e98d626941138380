use Rattle.std.proofs.Common.{sym, arith}
use Rattle.mesh.specs.Shape.{size-good}
use Rattle.copies.specs.CopyLaws.{copied}
use Rattle.copies.proofs.check_copy.Goals as goal

pub check_faces-requires : goal.check_faces-requires
check_faces-requires c = let h = size-good _ _ _ (sym c.in_ok-check_size.ensures) in record { shaped = h.0; limited = h.1 }

pub overflow_sub-faces : goal.overflow_sub-faces
overflow_sub-faces c = let h = (size-good _ _ _ (sym c.in_ok-check_size.ensures)).0.some in omega arith

pub returns-clause-fits : goal.returns-clause-fits
returns-clause-fits c = copied c.args.mesh.offsets.now c.args.mesh.corners.now c.args.mesh.coords.now _ _ _ _ c.in_ok-check_size.ensures c.check_room.ensures.value
