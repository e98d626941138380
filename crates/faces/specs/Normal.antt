-- The average normal of one face, as `average_normal_ref` has it. Definitions only.
use Rattle.std.specs.Prelude.{ℕ, zero, suc, ◌+◌, ◌%◌, cond, List, eqb, length, get_or, Float}
use Rattle.std.specs.Float.{binary32}
use Rattle.std.specs.Float.Ieee.{of_bits, lt}
use Rattle.root.specs.Sqrt.{root32}
use Rattle.point.specs.declared.Point.{Point}
use Rattle.faces.specs.declared.Tally.{Tally}
use Rattle.point.specs.Vector.{zero_p, sub_p, div_p, mag_sq_p, normalized_p, orthogonal_p}
use Rattle.faces.specs.Face.{point_at, count_f, centroid_of}

-- 0.00000001 as an f32
abbrev pub limit : Float
limit = of_bits binary32 0x322b_cc77

abbrev pub no_tally : Tally
no_tally = record { sum = zero_p; seen = 0 }

-- one corner: nothing where it is all but straight, else its unit normal is taken off and it is counted
unfoldable pub taken : Tally → Point → Tally
taken t o = cond (lt (mag_sq_p o) limit) t (record { sum = sub_p t.sum (div_p o (root32 (mag_sq_p o))); seen = t.seen + 1 })

-- the point of the corner k of the run, counted round
abbrev pub round_at : List Float → List ℕ → ℕ → Point
round_at xs vs k = point_at xs (get_or vs (k % length vs) 0)

-- the normal at the corner i and the two after it, counted round
unfoldable pub corner_normal : List Float → List ℕ → ℕ → Point
corner_normal xs vs i = orthogonal_p (round_at xs vs i) (round_at xs vs (i + 1)) (round_at xs vs (i + 2))

-- what the first i corners give, in order
unfoldable pub tally_to : List Float → List ℕ → ℕ → Tally
tally_to xs vs zero = no_tally
tally_to xs vs (suc i) = taken (tally_to xs vs i) (corner_normal xs vs i)

-- the sum over the number counted, or where there is none the direction of the centroid
unfoldable pub averaged : Tally → Point → Point
averaged t p = cond (eqb t.seen 0) (normalized_p p) (div_p t.sum (count_f t.seen))

unfoldable pub average_normal_of : List Float → List ℕ → Point
average_normal_of xs vs = averaged (tally_to xs vs (length vs)) (centroid_of xs vs)
