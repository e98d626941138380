-- What the contracts inside the recursion say: a finished step, the front of a work mesh, the steps from some step on. Definitions only.
use Rattle.std.specs.Prelude.{◌≡◌, Ok, Err, List, [], ℕ, ◌+◌, ◌*◌, ◌<◌, ◌≤◌, length, get_or, set, take}
use Rattle.std.proofs.lemmas.List.Edits.{sets}
use Rattle.engine.specs.declared.Counts.{Counts}
use Rattle.engine.specs.Answer.{Answer, Done, Refused}
use Rattle.engine.specs.Result.{refused}
use Rattle.steps.specs.Steps.{Mesh, mesh, code_of}
use Rattle.steps.specs.declared.Step.{Step}
use Rattle.chain.specs.Trail.{Trail, Ended}
use Rattle.chain.specs.declared.Row.{Row}
use Rattle.chain.specs.declared.Ran.{Ran}
use Rattle.chain.specs.declared.Extent.{Extent}

-- the row of a step and the counts that it answered
abbrev pub row_with : Step → Counts → Row
row_with s c = record { code = code_of s; v = c.v; e = c.e; f = c.f }

-- k steps are done, and the next one answers
abbrev pub finish_of : Answer → Step → ℕ → List Row → Ran
finish_of (Ok c) s k rows = record { answer = Done c; rows = set rows k (row_with s c); done = k + 1 }
finish_of (Err r) s k rows = record { answer = Refused r.number r.place (k + 1); rows = rows; done = k }

-- how much of a work mesh with these offsets is the mesh with these counts at its front; its corners are as many as its last offset says
abbrev pub extent_of : Counts → List ℕ → Extent
extent_of c o = record { offsets = c.f + 1; corners = get_or o c.f 0; coords = 3 * c.v }

-- the mesh of this extent at the front of a work mesh
abbrev pub front_at : Extent → Mesh → Mesh
front_at e w = mesh (take e.offsets w.offsets) (take e.corners w.corners) (take e.coords w.coords)

-- the work mesh holds it
pub record Spans (e : Extent) (w : Mesh) : Type 0 where
  pub offsets : e.offsets ≤ length w.offsets
  pub corners : e.corners ≤ length w.corners
  pub coords : e.coords ≤ length w.coords

-- the mesh with these counts at the front of a work mesh; its corners are as many as its last offset says
abbrev pub front : Counts → Mesh → Mesh
front c w = mesh (take (c.f + 1) w.offsets) (take (get_or w.offsets c.f 0) w.corners) (take (3 * c.v) w.coords)

-- the work mesh holds it
pub record Within (c : Counts) (w : Mesh) : Type 0 where
  pub offsets : c.f < length w.offsets
  pub corners : get_or w.offsets c.f 0 ≤ length w.corners
  pub coords : 3 * c.v ≤ length w.coords

-- the same after k steps, where so many are left after the next one
pub record Ready (left k : ℕ) (c : Counts) (w : Mesh) : Type 0 where
  pub most : k + left < 16
  pub within : Within c w

-- the steps that go on from an answer
abbrev pub from_answer : Answer → (Counts → Trail) → Trail
from_answer (Ok c) go = go c
from_answer (Err r) go = record { rows = []; step = r.step; end = refused r.number r.place }

-- the steps after the first k, with this trail, after the rows of those: the output before and after them
pub record Chained (t : Trail) (k : ℕ) (before : List Row) (r : Ran) (z z' : Mesh) : Type 0 where
  pub ended : Ended t z.offsets z.corners z.coords r.answer z'.offsets z'.corners z'.coords
  pub rows : r.rows ≡ sets before k t.rows
  pub done : r.done ≡ k + length t.rows
