use Rattle.std.proofs.Common.{sym}
use Rattle.mesh.specs.Shape.{size-good}
use Rattle.engine.specs.Known.{ready, admitted}
use Rattle.engine.proofs.check_mesh.Goals as goal

pub check_faces-requires : goal.check_faces-requires
check_faces-requires c = let h = size-good _ _ _ (sym c.in_ok-check_size.ensures) in record { shaped = h.0; limited = h.1 }

pub check_asked-requires : goal.check_asked-requires
check_asked-requires c =
    let r = ready c.args.mesh.offsets.now c.args.mesh.corners.now c.args.mesh.coords.now (sym c.in_ok-check_size.ensures) (sym c.in_ok-check_faces.ensures) in
    record { faced = r.faced; coords_len_bound = r.few-positions }

pub returns-clause-known : goal.returns-clause-known
returns-clause-known c =
    admitted c.args.asks c.args.mesh.offsets.now c.args.mesh.corners.now c.args.mesh.coords.now _ c.in_ok-check_size.ensures c.in_ok-check_faces.ensures c.check_asked.ensures
