-- Lent meshes, as contracts see them.
use Rattle.std.specs.Prelude.{◌≡◌, ℕ, List, Float}
use Rattle.mesh.specs.declared.Mesh.{Mesh}
use Rattle.mesh.specs.declared.MeshMut.{MeshMut}

-- a definition of offsets, corners and coordinates, of a lent mesh
abbrev pub of_mesh : {A : Type 0} → (List ℕ → List ℕ → List Float → A) → Mesh → A
of_mesh f m = f m.offsets.now m.corners.now m.coords.now

-- the same of what lent room holds
abbrev pub of_room : {A : Type 0} → (List ℕ → List ℕ → List Float → A) → MeshMut → A
of_room f m = f m.offsets.now m.corners.now m.coords.now

-- the room is the same room after a call
pub record IsSameRoom (old new : MeshMut) : Type 0 where
  pub offsets : new.offsets.ghost_name ≡ old.offsets.ghost_name
  pub corners : new.corners.ghost_name ≡ old.corners.ghost_name
  pub coords : new.coords.ghost_name ≡ old.coords.ghost_name
