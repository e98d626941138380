-- A run: the steps, or the refusal of too many, and what is left of it in the lent slices. Definitions only.
use Rattle.std.specs.Prelude.{◌≡◌, cond, List, ℕ, length, take, replicate, ltb}
use Rattle.slices.specs.Lists.{over}
use Rattle.mesh.specs.declared.MeshMut.{MeshMut}
use Rattle.steps.specs.Steps.{Mesh, Room, Masks}
use Rattle.steps.specs.declared.Step.{Step}
use Rattle.chain.specs.Lent.{held, space, IsKept, AreKept}
use Rattle.chain.specs.Trail.{Trail, trail, stopped, Ended, Zero}
use Rattle.chain.specs.declared.Row.{Row}
use Rattle.chain.specs.declared.Ran.{Ran}

-- the first n of the steps, through the work meshes with the rooms a and b; more than 16 are refused before the first
unfoldable pub run_trail : Masks → List Step → ℕ → Mesh → Room → Room → Room → Trail
unfolding trail
run_trail m steps n w a b z = cond (ltb 16 n) (stopped 2 3) (trail m (take n steps) 1 w a b z)

-- the rows before the first step
abbrev pub blanks : List Row
blanks = replicate 16 (record { code = 0; v = 0; e = 0; f = 0 })

-- a run with this trail: the work meshes a and b and the output z, before and after it
pub record Went (t : Trail) (a b z : Mesh) (r : Ran) (a' b' z' : Mesh) : Type 0 where
  pub ended : Ended t z.offsets z.corners z.coords r.answer z'.offsets z'.corners z'.coords
  pub first : Zero a.offsets a.corners a.coords a'.offsets a'.corners a'.coords
  pub second : Zero b.offsets b.corners b.coords b'.offsets b'.corners b'.coords
  pub rows : r.rows ≡ over t.rows blanks
  pub done : r.done ≡ length t.rows

-- a run with the trail t of the lent rooms: what these hold before and after it
pub record Runs (t : Room → Room → Room → Trail) (a b z : MeshMut) (r : Ran) (a' b' z' : MeshMut) : Type 0 where
  pub went : Went (t (space a) (space b) (space z)) (held a) (held b) (held z) r (held a') (held b') (held z')
  pub kept : AreKept a b z a' b' z'

-- lent room that reads zero
pub record Wipes (m m' : MeshMut) : Type 0 where
  pub zero : Zero m.offsets.now m.corners.now m.coords.now m'.offsets.now m'.corners.now m'.coords.now
  pub kept : IsKept m m'
