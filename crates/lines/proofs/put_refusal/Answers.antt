use native.Mathlib.Omega.{arith}
use Rattle.text.specs.TextLaws.{put_then}
use Rattle.lines.specs.Lines.{refusal}
use Rattle.lines.proofs.put_refusal.Goals as goal

pub returns : goal.returns
unfolding refusal
returns c = record { put = put_then c.put_then-next.ensures.put c.put_then.ensures.put; upper_bound = omega (arith, c.put_then-next.ensures.upper_bound, c.put_then.ensures.upper_bound) }
