use Rattle.std.proofs.Common.{le_refl}
use Rattle.reports.specs.ReportLaws.{recipe-told}
use Rattle.reports.specs.Report.{roomy}
use Rattle.reports.proofs.put_recipe.Goals as goal

pub returns-clause-put : goal.returns-clause-put
returns-clause-put c = recipe-told c.args.steps.now _ _ roomy roomy roomy c.requires (le_refl _) c.recorded-ran.ensures.went c.put_lines.ensures.put
