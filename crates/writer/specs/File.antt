-- The bytes of a panel file, from what it holds. Definitions only.
use Rattle.std.specs.Prelude.{List, [], ◌∷◌, ◌++◌, ℕ, ◌+◌, ◌*◌, ◌/◌, length, take, Float}
use Rattle.std.specs.Float.Ieee.{to_bits}
use Rattle.std.specs.Float.{binary32}
use Rattle.mesh.specs.Mesh as Mesh
use Rattle.operators.specs.Number.{Number}
use Rattle.std.specs.Prelude.{Some, None}
use Rattle.steps.specs.declared.Step.{Step}
use Rattle.steps.specs.declared.Step.TheVariants.{Ambo, Chamfer, Dual, Gyro, Kis, Propellor, Quinto, Reflect, Reverse, Whirl, Triangulate}
use Rattle.steps.specs.Steps.{code_of}
use Rattle.words.specs.Words.{bytes_of}
use Rattle.panel.specs.Format.{Contents}

-- what h makes of each element, one after the other
unfoldable pub flat_map : {A B : Type 0} → (A → List B) → List A → List B
flat_map h [] = []
flat_map h (x ∷ xs) = h x ++ flat_map h xs

-- ---- a step: code, flags, ratio, height

abbrev pub ratio_in : Step → Number
ratio_in (Ambo t) = t
ratio_in (Chamfer t) = t
ratio_in Dual = None
ratio_in (Gyro t h) = t
ratio_in (Kis h) = None
ratio_in (Propellor t) = t
ratio_in (Quinto h) = None
ratio_in Reflect = None
ratio_in Reverse = None
ratio_in (Whirl t h) = t
ratio_in Triangulate = None

abbrev pub height_in : Step → Number
height_in (Ambo t) = None
height_in (Chamfer t) = None
height_in Dual = None
height_in (Gyro t h) = h
height_in (Kis h) = h
height_in (Propellor t) = None
height_in (Quinto h) = h
height_in Reflect = None
height_in Reverse = None
height_in (Whirl t h) = h
height_in Triangulate = None

abbrev pub flag_of : Number → ℕ
flag_of None = 0
flag_of (Some x) = 1

-- every NaN has the pattern 0x7FC00000
abbrev pub bits_in : Number → ℕ
bits_in None = 0
bits_in (Some x) = to_bits binary32 x

unfoldable pub step_words : Step → List ℕ
step_words s = code_of s ∷ (flag_of (ratio_in s) + 2 * flag_of (height_in s)) ∷ bits_in (ratio_in s) ∷ bits_in (height_in s) ∷ []

-- ---- a coordinate, and a face: its arity and its corners

unfoldable pub float_words : Float → List ℕ
float_words x = to_bits binary32 x ∷ []

unfoldable pub face_words : List ℕ → List ℕ
face_words f = length f ∷ f

-- ---- the file: three sections, each after its count

unfoldable pub file_words : Contents → List ℕ
file_words q =
    (length q.steps ∷ flat_map step_words q.steps) ++
    ((length q.coords / 3 ∷ flat_map float_words q.coords) ++
    (length q.faces ∷ flat_map face_words q.faces))

unfoldable pub bytes_all : List ℕ → List ℕ
unfolding flat_map
bytes_all ws = flat_map bytes_of ws

unfoldable pub file_of : Contents → List ℕ
file_of q = bytes_all (file_words q)

-- ---- what a call of the writer is given: the first n steps, and a mesh by offsets, corners and coordinates

unfoldable pub given : List Step → ℕ → List ℕ → List ℕ → List Float → Contents
given l n o k x = record { steps = take n l; faces = Mesh.faces_of o k; coords = x }
