use Rattle.std.proofs.Common.{arith, sym, ◌∙◌}
use Rattle.slices.specs.First.{lowest_at, lowest_past}
use Rattle.mesh.proofs.surface.Faces.alone_at.Goals as goal

pub returns-then-alone_in : goal.returns-then-alone_in
returns-then-alone_in c = lowest_at c.loop-c.invariant.0 (omega arith) (sym c.alone_in.ensures ∙ c.if-alone_in.true)

pub returns : goal.returns
returns c = lowest_past c.loop-c.invariant.0 (omega arith)
