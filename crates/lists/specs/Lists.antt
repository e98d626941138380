-- What a list that document 01 names comes to, and a call of it. Definitions only.
use Rattle.std.specs.Prelude.{List, [], ℕ, Option, Some, None}
use Rattle.std.specs.Borrow.{Bor}
use Rattle.mesh.specs.declared.MeshMut.{MeshMut}
use Rattle.engine.specs.Answer.{Answer}
use Rattle.steps.specs.Steps.{Mesh, Room, Masks}
use Rattle.chain.specs.Lent.{held, space, AreKept}
use Rattle.chain.specs.Trail.{Trail, trail, Ended, Zero}
use Rattle.named.specs.Named.{list_steps}
use Rattle.named.specs.declared.NamedList.{NamedList}

-- what a list comes to
unfoldable pub list_trail : NamedList → Masks → Mesh → Room → Room → Room → Trail
unfolding trail
list_trail l m w a b z = trail m (list_steps l) 1 w a b z

-- the numbers of a list that may be given: none where it is not
abbrev pub numbers_in : Option (Bor (List ℕ)) → List ℕ
numbers_in None = []
numbers_in (Some l) = l.now

-- a call of a list with this trail: the work meshes a and b and the output z, before and after it
pub record Listed (t : Trail) (a b z : Mesh) (r : Answer) (a' b' z' : Mesh) : Type 0 where
  pub ended : Ended t z.offsets z.corners z.coords r z'.offsets z'.corners z'.coords
  pub first : Zero a.offsets a.corners a.coords a'.offsets a'.corners a'.coords
  pub second : Zero b.offsets b.corners b.coords b'.offsets b'.corners b'.coords

-- a call of a list with the trail t of the lent rooms: what these hold before and after it
pub record Lists (t : Room → Room → Room → Trail) (a b z : MeshMut) (r : Answer) (a' b' z' : MeshMut) : Type 0 where
  pub listed : Listed (t (space a) (space b) (space z)) (held a) (held b) (held z) r (held a') (held b') (held z')
  pub kept : AreKept a b z a' b' z'
