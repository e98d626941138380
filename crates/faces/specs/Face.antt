-- Points of a flat list of coordinates, and the centroid of one face. Definitions only.
use Rattle.std.specs.Prelude.{ℕ, zero, suc, ◌+◌, ◌*◌, ◌<◌, ◌≤◌, List, [], ◌∷◌, length, get_or, set, pos, Float}
use Rattle.std.specs.Float.{nan, binary32}
use Rattle.std.specs.Float.Ieee.{of_int}
use Rattle.point.specs.declared.Point.{Point}
use Rattle.point.specs.Vector.{zero_p, add_p, div_p}

-- the point of the vertex v
abbrev pub point_at : List Float → ℕ → Point
point_at xs v = record { x = get_or xs (v * 3) nan; y = get_or xs (v * 3 + 1) nan; z = get_or xs (v * 3 + 2) nan }

-- the list with the point p at the vertex v
abbrev pub put_at : List Float → ℕ → Point → List Float
put_at xs v p = set (set (set xs (v * 3) p.x) (v * 3 + 1) p.y) (v * 3 + 2) p.z

-- each vertex number of the run has its three coordinates
abbrev pub InReach : List Float → List ℕ → Type 0
InReach xs vs = (k : ℕ) → k < length vs → get_or vs k 0 * 3 + 3 ≤ length xs

-- the sum of the first i points of the run, from zero, in order
unfoldable pub sum_to : List Float → List ℕ → ℕ → Point
sum_to xs vs zero = zero_p
sum_to xs vs (suc i) = add_p (sum_to xs vs i) (point_at xs (get_or vs i 0))

-- a number of points as a float
abbrev pub count_f : ℕ → Float
count_f n = of_int binary32 (pos n)

unfoldable pub centroid_of : List Float → List ℕ → Point
centroid_of xs vs = div_p (sum_to xs vs (length vs)) (count_f (length vs))

-- the coordinates of a point
abbrev pub coords_of : Point → List Float
coords_of p = p.x ∷ p.y ∷ p.z ∷ []
