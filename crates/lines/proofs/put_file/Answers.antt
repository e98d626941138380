use native.Mathlib.Omega.{arith}
use Rattle.text.specs.TextLaws.{put_then}
use Rattle.lines.specs.Lines.{file_line}
use Rattle.lines.proofs.put_file.Goals as goal

pub returns : goal.returns
unfolding file_line
returns c = record { put = put_then c.put_run-next.ensures c.put_refusal.ensures.put; upper_bound = omega (arith, c.put_run-next.ensures.end, c.put_refusal.ensures.upper_bound) }
