use Rattle.std.proofs.Common.{sym}
use Rattle.mesh.specs.Shape.{size-good, face-good}
use Rattle.mesh.proofs.check.Goals as goal

pub check_faces-requires : goal.check_faces-requires
check_faces-requires c = let s = size-good _ _ _ (sym c.in_ok-check_size.ensures) in record { shaped = s.0; limited = s.1 }

pub check_edges-requires : goal.check_edges-requires
check_edges-requires c =
    let s = size-good _ _ _ (sym c.in_ok-check_size.ensures) in
    record { shaped = s.0; full = face-good _ _ _ (sym c.in_ok-check_faces.ensures); corners_len_bound = s.1.corners-fit }
