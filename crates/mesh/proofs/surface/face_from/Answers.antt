use Rattle.std.proofs.Common.{◌≡◌, arith, sym, ◌∙◌, lt-ltb}
use Rattle.slices.specs.First.{ended_at, ended}
use Rattle.mesh.specs.Mesh.{face_of}
use Rattle.mesh.proofs.surface.face_from.Goals as goal

pub returns-then-c-offsets : goal.returns-then-c-offsets
unfolding face_of
returns-then-c-offsets c = ended_at c.loop-g.invariant (omega arith) (lt-ltb _ _ c.if-c-offsets.true)

pub returns : goal.returns
unfolding face_of
returns c = let e : c.loop-g.g ≡ c.face_count-faces.result = omega arith in sym e ∙ ended c.loop-g.invariant (omega arith)
