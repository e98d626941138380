-- The faces that the six operators make which keep a mesh closed. Definitions only.
use Rattle.std.specs.Prelude.{List, ◌++◌, ℕ, ◌+◌, length, Float}
use Rattle.mesh.specs.Mesh.{faces}
use Rattle.mesh.specs.Edges.{edges}
use Rattle.picks.specs.declared.Mask.{Mask}
use Rattle.rule.specs.Rule.{dir, cor}
use Rattle.rule.specs.Named.{from, positions, per_corner, per_up, per_face, per_pick}
use Rattle.rule.specs.declared.Bases.{Bases}
use Rattle.rule.specs.declared.Move.TheVariants.{Here}
use Rattle.closed.specs.Rules.{gyro_rule, propellor_rule, whirl_rule, quinto_rule, chamfer_rule, kis_rule}

-- ---- chamfer: inner faces, then hexagons at ascending windows
unfoldable pub chamfer_faces : List ℕ → List ℕ → List Float → List (List ℕ)
chamfer_faces o k x = per_face (from 0 0 (positions x) 0) (cor Here) o k ++ per_up (from 0 0 (positions x) 0) chamfer_rule o k

-- ---- gyro: a pentagon a corner
unfoldable pub gyro_faces : List ℕ → List ℕ → List Float → List (List ℕ)
gyro_faces o k x = per_corner (from (positions x + faces o) 0 0 (positions x)) gyro_rule o k

-- ---- propellor: inner faces, then quadrilaterals
unfoldable pub propellor_faces : List ℕ → List ℕ → List Float → List (List ℕ)
propellor_faces o k x = per_face (from (positions x) 0 0 0) (dir Here) o k ++ per_corner (from (positions x) 0 0 0) propellor_rule o k

-- ---- whirl: hexagons, then inner faces
abbrev pub whirl_from : List ℕ → List Float → Bases
whirl_from k x = from (positions x + length k) 0 (positions x) 0

unfoldable pub whirl_faces : List ℕ → List ℕ → List Float → List (List ℕ)
whirl_faces o k x = per_corner (whirl_from k x) whirl_rule o k ++ per_face (whirl_from k x) (cor Here) o k

-- ---- quinto: inner faces, then pentagons
abbrev pub quinto_from : List ℕ → List ℕ → List Float → Bases
quinto_from o k x = from 0 (positions x) (positions x + edges o k) 0

unfoldable pub quinto_faces : List ℕ → List ℕ → List Float → List (List ℕ)
quinto_faces o k x = per_face (quinto_from o k x) (cor Here) o k ++ per_corner (quinto_from o k x) quinto_rule o k

-- ---- kis: triangles where a face is picked, or the face
unfoldable pub kis_faces : Mask → List ℕ → List ℕ → List ℕ → List ℕ → List Float → List (List ℕ)
kis_faces m l n o k x = per_pick m l n (from 0 0 0 (positions x)) kis_rule o k x
