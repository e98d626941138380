-- Reports of small files, computed: the empty file, bytes left over, and a good file without steps, which prints nothing. Assumes nothing.
use Rattle.std.specs.Prelude.{◌≡◌, [], ◌∷◌, replicate}
use Rattle.std.proofs.Common.{ap}
use Rattle.panel.specs.Format.{reading_as, reading}
use Rattle.panel.specs.Pieces.{pieces}
use Rattle.text.specs.Text.{decimal_in, decimal}
use Rattle.lines.specs.Lines.{number_then, refusal, file_line}
use Rattle.reports.specs.Report.{told, report_of}

pub record Examples : Type 0 where
  -- file 15 0
  pub empty : report_of [] ≡ 102 ∷ 105 ∷ 108 ∷ 101 ∷ 32 ∷ 49 ∷ 53 ∷ 32 ∷ 48 ∷ 10 ∷ []
  -- file 18 12
  pub left_over : report_of (replicate 13 0) ≡ 102 ∷ 105 ∷ 108 ∷ 101 ∷ 32 ∷ 49 ∷ 56 ∷ 32 ∷ 49 ∷ 50 ∷ 10 ∷ []

pub examples : Examples
unfolding decimal_in decimal number_then refusal file_line reading report_of
examples = record {
  empty = ap (λ q. told (reading_as [] q)) pieces.empty;
  left_over = ap (λ q. told (reading_as (replicate 13 0) q)) pieces.left_over;
}
