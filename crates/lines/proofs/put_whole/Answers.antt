use native.Mathlib.Omega.{arith}
use Rattle.text.specs.TextLaws.{put_then}
use Rattle.lines.specs.Lines.{whole_then}
use Rattle.lines.proofs.put_whole.Goals as goal

pub put_then-requires : goal.put_then-requires
put_then-requires c = omega (arith, c.put_byte-next.ensures.end)

pub returns-then-w : goal.returns-then-w
unfolding whole_then
returns-then-w c = record { put = rw c.if-w.true (put_then c.put_byte-next.ensures c.put_then.ensures.put); upper_bound = omega (arith, c.put_byte-next.ensures.end, c.put_then.ensures.upper_bound) }

pub returns : goal.returns
unfolding whole_then
returns c = record { put = rw c.if-w.false c.put_then-2.ensures.put; upper_bound = omega (arith, c.put_then-2.ensures.upper_bound) }
