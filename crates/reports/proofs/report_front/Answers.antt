use Rattle.std.proofs.Common.{arith}
use Rattle.std.proofs.lemmas.List.{take_min}
use Rattle.reports.specs.ReportLaws.{front-told}
use Rattle.reports.proofs.report_front.Goals as goal

pub returns-clause-for_file : goal.returns-clause-for_file
returns-clause-for_file c = front-told c.args.front.now c.args.n c.min-got.result (omega (arith, c.told-front)) (rw (c.min-got.ensures, ← c.told-front) (take_min c.args.n c.args.front.now)) (omega (arith, c.told-text, c.report.ensures.upper_bound)) c.report.ensures.put
