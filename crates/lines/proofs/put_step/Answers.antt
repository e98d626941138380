use native.Mathlib.Omega.{arith}
use Rattle.text.specs.TextLaws.{put_then, put-length}
use Rattle.lines.specs.Lines.{step_line}
use Rattle.lines.proofs.put_step.Goals as goal

pub put_whole-g-requires : goal.put_whole-g-requires
put_whole-g-requires c = omega (arith, c.requires, c.put_then-a.ensures.upper_bound, c.put_then-b.ensures.upper_bound, c.put_then-d.ensures.upper_bound, c.put_then-e.ensures.upper_bound, c.put_then-f.ensures.upper_bound)

pub put_whole-requires : goal.put_whole-requires
put_whole-requires c = omega (arith, c.requires, c.put_then-a.ensures.upper_bound, c.put_then-b.ensures.upper_bound, c.put_then-d.ensures.upper_bound, c.put_then-e.ensures.upper_bound, c.put_then-f.ensures.upper_bound, c.put_whole-g.ensures.upper_bound)

pub shape_of-text : goal.shape_of-text
shape_of-text c = omega (arith, put-length c.put_then-a.ensures.put, put-length c.put_then-b.ensures.put, put-length c.put_then-d.ensures.put, put-length c.put_then-e.ensures.put, put-length c.put_then-f.ensures.put, put-length c.put_whole-g.ensures.put, put-length c.put_whole.ensures.put)

pub returns : goal.returns
unfolding step_line
returns c = record { put = put_then c.put_then-a.ensures.put (put_then c.put_then-b.ensures.put (put_then c.put_then-d.ensures.put (put_then c.put_then-e.ensures.put (put_then c.put_then-f.ensures.put (put_then (rw c.euler.ensures at c.put_whole-g.ensures.put) (rw c.handles.ensures at c.put_whole.ensures.put)))))); upper_bound = omega (arith, c.put_then-a.ensures.upper_bound, c.put_then-b.ensures.upper_bound, c.put_then-d.ensures.upper_bound, c.put_then-e.ensures.upper_bound, c.put_then-f.ensures.upper_bound, c.put_whole-g.ensures.upper_bound, c.put_whole.ensures.upper_bound) }
