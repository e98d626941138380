-- A lent mesh and lent room, as the records that trails speak of. Definitions only.
use Rattle.std.specs.Prelude.{◌≡◌}
use Rattle.mesh.specs.Lent.{of_mesh, of_room, IsSameRoom}
use Rattle.mesh.specs.declared.Mesh as lent
use Rattle.mesh.specs.declared.MeshMut.{MeshMut}
use Rattle.steps.specs.Steps.{Mesh, Room, mesh, room}

-- the mesh that is lent
abbrev pub shown : lent.Mesh → Mesh
shown m = of_mesh mesh m

-- what lent room holds
abbrev pub held : MeshMut → Mesh
held m = of_room mesh m

-- how much room is lent
abbrev pub space : MeshMut → Room
space m = of_room room m

-- the same room after a call, and as much of it
pub record IsKept (m m' : MeshMut) : Type 0 where
  pub same : IsSameRoom m m'
  pub size : space m' ≡ space m

-- the work meshes a and b are so, and the output z is the same room
pub record AreKept (a b z a' b' z' : MeshMut) : Type 0 where
  pub first : IsKept a a'
  pub second : IsKept b b'
  pub output : IsSameRoom z z'
