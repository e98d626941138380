-- The lines as the code makes them, step by step from what a recipe hands back. Definitions only.
use Rattle.std.specs.Prelude.{Ok, Err}
use Rattle.std.specs.Prelude.{cond, List, [], ◌++◌, ℕ, zero, suc, ◌+◌, get_or, ltb, eqb}
use Rattle.slices.specs.Lists.{each}
use Rattle.engine.specs.Answer.{Answer}
use Rattle.chain.specs.declared.Ran.{Ran}
use Rattle.totals.specs.Totals.{no_row, answer_at}
use Rattle.lines.specs.Lines.{step_line, refused_line, end_line}

-- the code of step k + 1
unfoldable pub code_at : Ran → ℕ → ℕ
code_at r k = cond (ltb k 16) (get_or r.rows k no_row).code 0

-- step k + 1 with this answer, and what comes after it where it is done
abbrev pub goes_on : Ran → ℕ → Answer → List ℕ → List ℕ
goes_on r k (Ok c) rest = step_line (k + 1) (code_at r k) c ++ rest
goes_on r k (Err r1) rest = refused_line r1.step r1.number r1.place

-- m steps from step k + 1 on
unfoldable pub steps_from : Ran → ℕ → ℕ → List ℕ
steps_from r k zero = []
steps_from r k (suc m) = goes_on r k (answer_at r k) (steps_from r (k + 1) m)

-- the line of step k + 1 where it is done
abbrev pub done_line : Ran → ℕ → Answer → List ℕ
done_line r k (Ok c) = step_line (k + 1) (code_at r k) c
done_line r k (Err r1) = []

-- the first k steps
unfoldable pub steps_before : Ran → ℕ → List ℕ
steps_before r k = each (λ i. done_line r i (answer_at r i)) k

-- a recipe of n steps; one of none says only that it is refused
unfoldable pub run_lines : Ran → ℕ → List ℕ
run_lines r n = cond (eqb n 0) (end_line r.answer) (steps_from r 0 n)
