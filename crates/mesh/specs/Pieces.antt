-- A bench piece by computing: T passes 8 and 9. Assumes nothing.
use Rattle.std.specs.Prelude.{ℕ, ◌≡◌, refl, List, [], ◌∷◌}
use Rattle.slices.specs.First.{first}
use Rattle.mesh.specs.Mesh.{face_of, next, window, mate}
use Rattle.mesh.specs.Tests.{verdict, edge_tests}
use Rattle.mesh.specs.Verdict.{Good}

-- T: faces [0,1,2], [0,3,1], [0,2,3], [1,3,2]
abbrev pub tOffsets : List ℕ
tOffsets = 0 ∷ 3 ∷ 6 ∷ 9 ∷ 12 ∷ []

abbrev pub tCorners : List ℕ
tCorners = 0 ∷ 1 ∷ 2 ∷ 0 ∷ 3 ∷ 1 ∷ 0 ∷ 2 ∷ 3 ∷ 1 ∷ 3 ∷ 2 ∷ []

pub t-passes : verdict (edge_tests tOffsets tCorners) ≡ Good
unfolding verdict edge_tests first window mate next face_of
t-passes = refl
