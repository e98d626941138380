-- Meshes that pass, and a step that is done on each, by computing, so that no statement is empty: T, a torus, and two Ts that share a vertex.
-- Assumes nothing.
use Rattle.std.specs.Prelude.{◌≡◌, refl, Bool, true, false, List, [], ◌∷◌, ◌++◌, map, ℕ, ◌+◌, Float, None}
use Rattle.std.specs.Int.Count.{count_leading_zeros}
use Rattle.std.specs.Float.{binary32}
use Rattle.std.specs.Float.Ieee.{to_bits, of_bits, of_int, add, sub, mul, div, neg, lt}
use Rattle.slices.specs.First.{first, count}
use Rattle.slices.specs.Lists.{each}
use Rattle.mesh.specs.Mesh.{face_of, next, prev, window, mate, turn}
use Rattle.mesh.specs.Edges.{up, rank}
use Rattle.mesh.specs.Tests.{verdict, wrong_offsets, wrong_shape, too_many, size_tests, face_tests, edge_tests, tests}
use Rattle.root.specs.Sqrt.{root32, root_bits}
use Rattle.faces.specs.Face.{centroid_of, sum_to}
use Rattle.faces.specs.Normal.{taken, corner_normal, tally_to, averaged, average_normal_of}
use Rattle.picks.specs.Picks.{picked, allows}
use Rattle.spots.specs.Points.{change_of, spot_of, tip_of, middle_of}
use Rattle.rule.specs.Rule.{vertex_at, made, inner, splits}
use Rattle.rule.specs.Flat.{flat}
use Rattle.engine.specs.Result.{Outcome, refused, result, cramped, room_tests, finite_tests, asked, table, outcome}
use Rattle.operators.specs.Numbers.{loose_at, number_tests}
use Rattle.operators.specs.Operators.{chamfer_outcome, gyro_outcome, kis_outcome, propellor_outcome, quinto_outcome, whirl_outcome, chamfer_coords, gyro_coords, kis_coords, propellor_coords, quinto_coords, whirl_coords}
use Rattle.operators.specs.Pieces.{tetra_offsets, tetra_corners, tetra_coords}
use Rattle.closed.specs.Faces.{chamfer_faces, gyro_faces, kis_faces, propellor_faces, quinto_faces, whirl_faces}
use Rattle.steps.specs.Steps.{Mesh, Room, mesh, masks, step_on}
use Rattle.steps.specs.declared.Step.{Step}
use Rattle.steps.specs.declared.Step.TheVariants.{Chamfer, Gyro, Kis, Propellor, Quinto, Whirl}
use Rattle.lasting.specs.Demand3.{Passes, positions_in, edges_in, faces_in}

-- 1, 2 and 4, as patterns, and the same below zero
abbrev one : ℕ
one = 0x3f800000

abbrev two : ℕ
two = 0x40000000

abbrev four : ℕ
four = 0x40800000

abbrev minus : ℕ → ℕ
minus n = n + 0x80000000

abbrev floats : List ℕ → List Float
floats l = map (of_bits binary32) l

-- ---- T
abbrev pub tetra : Mesh
tetra = mesh tetra_offsets tetra_corners tetra_coords

-- ---- T and a second T that share vertex 0, the other positions of the second doubled
abbrev pub pinched : Mesh
pinched =
    mesh (tetra_offsets ++ (15 ∷ 18 ∷ 21 ∷ 24 ∷ []))
    (tetra_corners ++ (0 ∷ 4 ∷ 5 ∷ 0 ∷ 6 ∷ 4 ∷ 0 ∷ 5 ∷ 6 ∷ 4 ∷ 6 ∷ 5 ∷ []))
    (tetra_coords ++ floats (minus two ∷ two ∷ minus two ∷ two ∷ minus two ∷ minus two ∷ minus two ∷ minus two ∷ two ∷ []))

-- ---- three times three quadrilaterals round a ring
abbrev pub torus : Mesh
torus =
    mesh (0 ∷ 4 ∷ 8 ∷ 12 ∷ 16 ∷ 20 ∷ 24 ∷ 28 ∷ 32 ∷ 36 ∷ [])
    (0 ∷ 1 ∷ 4 ∷ 3 ∷ 1 ∷ 2 ∷ 5 ∷ 4 ∷ 2 ∷ 0 ∷ 3 ∷ 5 ∷
    3 ∷ 4 ∷ 7 ∷ 6 ∷ 4 ∷ 5 ∷ 8 ∷ 7 ∷ 5 ∷ 3 ∷ 6 ∷ 8 ∷
    6 ∷ 7 ∷ 1 ∷ 0 ∷ 7 ∷ 8 ∷ 2 ∷ 1 ∷ 8 ∷ 6 ∷ 0 ∷ 2 ∷
    [])
    (floats
    (four ∷ 0 ∷ 0 ∷ two ∷ 0 ∷ one ∷ two ∷ 0 ∷ minus one ∷
    minus two ∷ four ∷ 0 ∷ minus one ∷ two ∷ one ∷ minus one ∷ two ∷ minus one ∷
    minus two ∷ minus four ∷ 0 ∷ minus one ∷ minus two ∷ one ∷ minus one ∷ minus two ∷ minus one ∷
    []))

-- they pass
pub pieces-pass : Passes tetra × Passes torus × Passes pinched
unfolding verdict tests size_tests face_tests edge_tests wrong_offsets wrong_shape too_many first window mate next face_of of_bits
pieces-pass = (refl, refl, refl)

-- and V + F is E + 2, E and E + 3
pub pieces-count :
    (positions_in tetra + faces_in tetra ≡ edges_in tetra + 2) ×
    (positions_in torus + faces_in torus ≡ edges_in torus) ×
    (positions_in pinched + faces_in pinched ≡ edges_in pinched + 3)
pieces-count = (refl, refl, refl)

-- ---- in room enough each of the six is done on T, and propellor on the other two
abbrev done : Outcome → Bool
done (refused n p) = false
done (result fs xs) = true

abbrev wide : Room
wide = record { offsets = 100; corners = 200; coords = 200 }

abbrev pub done_on : Mesh → Step → Bool
done_on w s = done (step_on (masks (record { arities = false; numbers = false; regular = false }) [] []) s w wide)

pub pieces-done :
    map (done_on tetra) (Chamfer None ∷ Gyro None None ∷ Kis None ∷ Propellor None ∷ Quinto None ∷ Whirl None None ∷ []) ++ map (λ w. done_on w (Propellor None)) (torus ∷ pinched ∷ [])
    ≡ true ∷ true ∷ true ∷ true ∷ true ∷ true ∷ true ∷ true ∷ []
unfolding chamfer_outcome gyro_outcome kis_outcome propellor_outcome quinto_outcome whirl_outcome chamfer_faces gyro_faces kis_faces propellor_faces quinto_faces whirl_faces chamfer_coords gyro_coords kis_coords propellor_coords quinto_coords whirl_coords outcome table asked room_tests finite_tests cramped number_tests loose_at verdict tests size_tests face_tests edge_tests wrong_offsets wrong_shape too_many first count each window mate next prev face_of up rank turn vertex_at made inner splits flat change_of spot_of tip_of middle_of picked allows centroid_of sum_to taken corner_normal tally_to averaged average_normal_of root32 root_bits count_leading_zeros to_bits of_bits of_int add sub mul div lt neg
pieces-done = refl
