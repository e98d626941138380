-- The lines of a report in document 01's words: step, code, V, E, F, X, H; `refused`; `file`. Definitions only.
use Rattle.std.specs.Prelude.{Ok, Err}
use Rattle.std.specs.Prelude.{cond, List, [], ◌∷◌, ◌++◌, ℕ, ◌+◌}
use Rattle.text.specs.Text.{decimal}
use Rattle.engine.specs.declared.Counts.{Counts}
use Rattle.engine.specs.Answer.{Answer}
use Rattle.chain.specs.Trail.{Trail, answer_to}
use Rattle.chain.specs.declared.Row.{Row}
use Rattle.totals.specs.declared.Whole.{Whole}
use Rattle.totals.specs.Totals.{euler_of, handles_of, counts_in}

abbrev pub space : ℕ
space = 32

abbrev pub newline : ℕ
newline = 10

-- "refused " and "file "
abbrev pub refused_word : List ℕ
refused_word = 114 ∷ 101 ∷ 102 ∷ 117 ∷ 115 ∷ 101 ∷ 100 ∷ 32 ∷ []

abbrev pub file_word : List ℕ
file_word = 102 ∷ 105 ∷ 108 ∷ 101 ∷ 32 ∷ []

-- a number and the byte after it
unfoldable pub number_then : ℕ → ℕ → List ℕ
number_then n b = decimal n ++ (b ∷ [])

-- a whole number, "-" in front of it where it is below 0, and the byte after it
unfoldable pub whole_then : Whole → ℕ → List ℕ
whole_then w b = cond w.minus (45 ∷ number_then w.size b) (number_then w.size b)

-- a step that is done: step, code, V, E, F, X, H
unfoldable pub step_line : ℕ → ℕ → Counts → List ℕ
step_line step code c =
    number_then step space
    ++ (number_then code space
    ++ (number_then c.v space
    ++ (number_then c.e space
    ++ (number_then c.f space
    ++ (whole_then (euler_of c) space
    ++ whole_then (handles_of c) newline)))))

-- what was refused: number, place
unfoldable pub refusal : ℕ → ℕ → List ℕ
refusal number place = number_then number space ++ number_then place newline

-- a step that is refused: step, `refused`, number, place
unfoldable pub refused_line : ℕ → ℕ → ℕ → List ℕ
refused_line step number place = number_then step space ++ (refused_word ++ refusal number place)

-- a file that is refused: `file`, number, place
unfoldable pub file_line : ℕ → ℕ → List ℕ
file_line number place = file_word ++ refusal number place

-- ---- the lines of a recipe

-- a line for each finished step, the first of them step i
unfoldable pub row_lines : ℕ → List Row → List ℕ
row_lines i [] = []
row_lines i (r ∷ rs) = step_line i r.code (counts_in r) ++ row_lines (i + 1) rs

-- the line of a refusal, and none where all is done
abbrev pub end_line : Answer → List ℕ
end_line (Ok c) = []
end_line (Err r) = refused_line r.step r.number r.place

-- what a recipe with this trail prints: the finished steps, and the refusal that ends them
unfoldable pub lines_of : Trail → List ℕ
lines_of t = row_lines 1 t.rows ++ end_line (answer_to t)
