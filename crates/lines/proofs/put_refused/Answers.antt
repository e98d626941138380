use native.Mathlib.Omega.{arith}
use Rattle.text.specs.TextLaws.{put-none, put_then}
use Rattle.lines.specs.Lines.{refused_line}
use Rattle.lines.proofs.put_refused.Goals as goal

pub returns-in_default : goal.returns-in_default
returns-in_default c = record { put = rw c.in_default.is (put-none _ _); upper_bound = omega arith }

pub returns : goal.returns
unfolding refused_line
returns c = record { put = rw c.in-Err.is (put_then c.put_then-word.ensures.put (put_then c.put_run-next.ensures c.put_refusal.ensures.put)); upper_bound = omega (arith, c.put_then-word.ensures.upper_bound, c.put_run-next.ensures.end, c.put_refusal.ensures.upper_bound) }
