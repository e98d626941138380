-- Lines of reports, computed: document 01's example, a torus, two parts, and the two refusals. Assumes nothing.
use Rattle.std.specs.Prelude.{◌≡◌, refl, [], ◌∷◌, ℕ}
use Rattle.text.specs.Text.{decimal_in, decimal}
use Rattle.engine.specs.declared.Counts.{Counts}
use Rattle.lines.specs.Lines.{number_then, whole_then, step_line, refusal, refused_line, file_line}

abbrev counts : ℕ → ℕ → ℕ → Counts
counts v e f = record { v = v; e = e; f = f }

pub record Examples : Type 0 where
  -- 1 4 20 30 12 2 0
  pub first : step_line 1 4 (counts 20 30 12) ≡ 49 ∷ 32 ∷ 52 ∷ 32 ∷ 50 ∷ 48 ∷ 32 ∷ 51 ∷ 48 ∷ 32 ∷ 49 ∷ 50 ∷ 32 ∷ 50 ∷ 32 ∷ 48 ∷ 10 ∷ []
  -- 2 2 80 120 42 2 0
  pub second : step_line 2 2 (counts 80 120 42) ≡ 50 ∷ 32 ∷ 50 ∷ 32 ∷ 56 ∷ 48 ∷ 32 ∷ 49 ∷ 50 ∷ 48 ∷ 32 ∷ 52 ∷ 50 ∷ 32 ∷ 50 ∷ 32 ∷ 48 ∷ 10 ∷ []
  -- 1 10 1728 2688 960 0 1
  pub torus : step_line 1 10 (counts 1728 2688 960) ≡ 49 ∷ 32 ∷ 49 ∷ 48 ∷ 32 ∷ 49 ∷ 55 ∷ 50 ∷ 56 ∷ 32 ∷ 50 ∷ 54 ∷ 56 ∷ 56 ∷ 32 ∷ 57 ∷ 54 ∷ 48 ∷ 32 ∷ 48 ∷ 32 ∷ 49 ∷ 10 ∷ []
  -- 1 4 130 210 84 4 -1
  pub two-parts : step_line 1 4 (counts 130 210 84) ≡ 49 ∷ 32 ∷ 52 ∷ 32 ∷ 49 ∷ 51 ∷ 48 ∷ 32 ∷ 50 ∷ 49 ∷ 48 ∷ 32 ∷ 56 ∷ 52 ∷ 32 ∷ 52 ∷ 32 ∷ 45 ∷ 49 ∷ 10 ∷ []
  -- 2 refused 11 0
  pub refused : refused_line 2 11 0 ≡ 50 ∷ 32 ∷ 114 ∷ 101 ∷ 102 ∷ 117 ∷ 115 ∷ 101 ∷ 100 ∷ 32 ∷ 49 ∷ 49 ∷ 32 ∷ 48 ∷ 10 ∷ []
  -- file 15 3552
  pub file : file_line 15 3552 ≡ 102 ∷ 105 ∷ 108 ∷ 101 ∷ 32 ∷ 49 ∷ 53 ∷ 32 ∷ 51 ∷ 53 ∷ 53 ∷ 50 ∷ 10 ∷ []

pub examples : Examples
unfolding decimal_in decimal number_then whole_then step_line refusal refused_line file_line
examples = record { first = refl; second = refl; torus = refl; two-parts = refl; refused = refl; file = refl }
