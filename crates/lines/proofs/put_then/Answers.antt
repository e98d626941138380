use native.Mathlib.Omega.{arith}
use Rattle.text.specs.TextLaws.{put_then}
use Rattle.lines.specs.Lines.{number_then}
use Rattle.lines.proofs.put_then.Goals as goal

pub returns : goal.returns
unfolding number_then
returns c = record { put = put_then c.put_number-end.ensures.put c.put_byte.ensures; upper_bound = omega (arith, c.put_number-end.ensures.upper_bound, c.put_byte.ensures.end) }
