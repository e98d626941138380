use Rattle.std.proofs.Common.{sym}
use Rattle.mesh.specs.Corners.{edges-good}
use Rattle.engine.proofs.check_asked.Goals as goal

pub check_round-requires-clause-paired : goal.check_round-requires-clause-paired
check_round-requires-clause-paired c = edges-good _ _ (sym c.in_ok-check_edges-in-Round.ensures)
