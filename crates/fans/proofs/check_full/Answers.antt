use Rattle.std.proofs.Common.{sym}
use Rattle.mesh.specs.Edges.{tests-sound}
use Rattle.fans.proofs.check_full.Goals as goal

pub check_round-requires : goal.check_round-requires
check_round-requires c =
    let s = tests-sound _ _ _ (sym c.in_ok-check.ensures) in
    record { shaped = s.0.shaped; full = s.0.full; paired = s.0.paired; positions_le_limit = s.1.positions-fit }
