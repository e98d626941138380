-- The four words of a step: code, flags, ratio, height. Definitions only.
use Rattle.std.specs.Prelude.{Bool, true, false, ◌&&◌, ◌||◌, List, [], ◌∷◌, ℕ, ◌+◌, ◌%◌, ◌/◌, get_or, leb, eqb, Float}
use Rattle.std.specs.Float.Ieee.{of_bits}
use Rattle.std.specs.Float.{binary32}
use Rattle.operators.specs.Number.{Number}
use Rattle.std.specs.Prelude.{Some, None}
use Rattle.steps.specs.declared.Step.{Step}
use Rattle.steps.specs.declared.Step.TheVariants.{Ambo, Chamfer, Dual, Gyro, Kis, Propellor, Quinto, Reflect, Reverse, Whirl, Triangulate}

unfoldable pub one_of : List ℕ → ℕ → Bool
one_of [] c = false
one_of (x ∷ xs) c = eqb c x || one_of xs c

-- the codes whose operator takes a ratio, and those whose operator takes a height
unfoldable pub takes_ratio : ℕ → Bool
unfolding one_of
takes_ratio c = one_of (1 ∷ 2 ∷ 4 ∷ 6 ∷ 10 ∷ []) c

unfoldable pub takes_height : ℕ → Bool
unfolding one_of
takes_height c = one_of (4 ∷ 5 ∷ 7 ∷ 10 ∷ []) c

-- flag 1: the ratio is present; flag 2: the height is
abbrev pub ratio_flag : ℕ → Bool
ratio_flag flags = eqb (flags % 2) 1

abbrev pub height_flag : ℕ → Bool
height_flag flags = eqb (flags / 2 % 2) 1

-- a number is present only where the operator takes it; the bits of an absent one are 0
abbrev pub good_number : Bool → Bool → ℕ → Bool
good_number takes true bits = takes
good_number takes false bits = eqb bits 0

-- a known code, no other flags than 1 and 2, and two good numbers
unfoldable pub good_step : ℕ → ℕ → ℕ → ℕ → Bool
good_step code flags ratio height =
    (leb 1 code && leb code 11) &&
    (leb flags 3 &&
    (good_number (takes_ratio code) (ratio_flag flags) ratio && good_number (takes_height code) (height_flag flags) height))

-- ---- the step that they stand for

abbrev pub number_of : Bool → ℕ → Number
number_of true bits = Some (of_bits binary32 bits)
number_of false bits = None

-- the codes 1 to 11 in order; no other code is read
unfoldable pub step_of : ℕ → Number → Number → Step
step_of code t h = get_or (Triangulate ∷ Ambo t ∷ Chamfer t ∷ Dual ∷ Gyro t h ∷ Kis h ∷ Propellor t ∷ Quinto h ∷ Reflect ∷ Reverse ∷ Whirl t h ∷ []) code Triangulate

unfoldable pub step_with : ℕ → ℕ → ℕ → ℕ → Step
step_with code flags ratio height = step_of code (number_of (ratio_flag flags) ratio) (number_of (height_flag flags) height)
