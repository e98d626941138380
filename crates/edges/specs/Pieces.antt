-- A bench piece by computing: the edge list of T. Assumes nothing.
use Rattle.std.specs.Prelude.{◌≡◌, refl, [], ◌∷◌}
use Rattle.slices.specs.First.{first}
use Rattle.slices.specs.Lists.{each}
use Rattle.mesh.specs.Mesh.{face_of, next, window}
use Rattle.mesh.specs.Edges.{up}
use Rattle.mesh.specs.Pieces.{tOffsets, tCorners}
use Rattle.edges.specs.EdgeList.{edge_list}

pub t-edges : edge_list tOffsets tCorners ≡ (0 ∷ 1 ∷ []) ∷ (1 ∷ 2 ∷ []) ∷ (0 ∷ 3 ∷ []) ∷ (0 ∷ 2 ∷ []) ∷ (2 ∷ 3 ∷ []) ∷ (1 ∷ 3 ∷ []) ∷ []
unfolding edge_list each up window next face_of first
t-edges = refl
