-- The first face of T: its centroid and its average normal, computed, held to what another program gives.
use Rattle.std.specs.Prelude.{◌≡◌, refl, List, [], ◌∷◌, map, ℕ, Float}
use Rattle.std.specs.Int.Count.{count_leading_zeros}
use Rattle.std.specs.Float.{binary32}
use Rattle.std.specs.Float.Ieee.{of_bits, of_int, add, sub, mul, div, lt, to_bits}
use Rattle.root.specs.Sqrt.{root32}
use Rattle.point.specs.declared.Point.{Point}
use Rattle.faces.specs.Face.{sum_to, centroid_of}
use Rattle.point.specs.Vector.{mag_sq_p, mag_p}
use Rattle.faces.specs.Normal.{taken, corner_normal, tally_to, averaged, average_normal_of}

abbrev pub one : ℕ
one = 0x3f800000

abbrev pub less : ℕ
less = 0xbf800000

abbrev pub tetra : List Float
tetra = map (of_bits binary32) (one ∷ one ∷ one ∷ less ∷ one ∷ less ∷ one ∷ less ∷ less ∷ less ∷ less ∷ one ∷ [])

abbrev pub bits : Point → List ℕ
bits p = to_bits binary32 p.x ∷ to_bits binary32 p.y ∷ to_bits binary32 p.z ∷ []

pub tetra-centroid : bits (centroid_of tetra (0 ∷ 1 ∷ 2 ∷ [])) ≡ (0x3eaaaaab ∷ 0x3eaaaaab ∷ 0xbeaaaaab ∷ [])
unfolding centroid_of sum_to of_bits to_bits of_int add div
tetra-centroid = refl

pub tetra-normal : bits (average_normal_of tetra (0 ∷ 1 ∷ 2 ∷ [])) ≡ (0x3f13cd3a ∷ 0x3f13cd3a ∷ 0xbf13cd3a ∷ [])
unfolding average_normal_of averaged tally_to taken corner_normal centroid_of sum_to root32 count_leading_zeros of_bits to_bits of_int add sub mul div lt
tetra-normal = refl

-- the squared magnitude of its first corner's cross product is 48; the root of that
pub tetra-root : to_bits binary32 (mag_sq_p (corner_normal tetra (0 ∷ 1 ∷ 2 ∷ []) 0)) ∷ to_bits binary32 (mag_p (corner_normal tetra (0 ∷ 1 ∷ 2 ∷ []) 0)) ∷ [] ≡ (0x42400000 ∷ 0x40ddb3d7 ∷ [])
unfolding corner_normal root32 count_leading_zeros of_bits to_bits add sub mul
tetra-root = refl
