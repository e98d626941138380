use Rattle.std.proofs.Common.{arith, sym, ◌∙◌}
use Rattle.slices.specs.First.{lowest_at, lowest_past}
use Rattle.mesh.proofs.surface.Faces.met_at.Goals as goal

pub returns-then-met_in : goal.returns-then-met_in
returns-then-met_in c = lowest_at c.loop-c.invariant.0 (omega arith) (sym c.met_in.ensures ∙ c.if-met_in.true)

pub returns : goal.returns
returns c = lowest_past c.loop-c.invariant.0 (omega arith)
