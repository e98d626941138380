use Rattle.std.proofs.Common.{refl, arith}
use Rattle.recipes.specs.RecipeLaws.{recipe-front}
use Rattle.reports.specs.Report.{roomy}
use Rattle.reports.specs.ReportLaws.{refused-told, held, report-told}
use Rattle.reports.proofs.report.Goals as goal

pub returns-in-Err-clause-put : goal.returns-in-Err-clause-put
returns-in-Err-clause-put c = refused-told _ (omega arith) (omega arith) (omega arith) c.in-Err.ensures.read refl c.put_file.ensures.put

pub mesh_of-input-requires : goal.mesh_of-input-requires
mesh_of-input-requires c = let h = held _ (omega arith) (omega arith) (omega arith) c.in-Ok.ensures.read refl in (h.offsets.1, (h.corners.1, h.coords.1))

pub returns-clause-put : goal.returns-clause-put
returns-clause-put c =
    let h = held _ (omega arith) (omega arith) (omega arith) c.in-Ok.ensures.read refl in
    report-told h c.steps-steps.ensures (rw (recipe-front 16 c.steps-steps.result c.in-Ok.held.steps _ roomy roomy roomy (omega arith), c.mesh_of-input.ensures) at c.put_recipe.ensures.put)
