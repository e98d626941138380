-- Laws of one face: the fold goes by index, and a part of the corners stays in reach. Assumes nothing.
use Rattle.std.specs.Prelude.{◌≡◌, ℕ, suc, ◌+◌, ◌*◌, ◌≤◌, ◌<◌, List, length, get_or, take, drop, T, pos, Float}
use Rattle.std.proofs.Common.{sym, ap, add-one, arith, length-take, length-drop, get_or-take, get_or-drop, le→leb}
use Rattle.std.proofs.lemmas.List.Edits.{sets}
use Rattle.std.specs.Float.{binary32}
use Rattle.std.specs.Float.Ieee.{in_float}
use Rattle.point.specs.declared.Point.{Point}
use Rattle.point.specs.Vector.{add_p}
use Rattle.faces.specs.Face.{point_at, InReach, sum_to, put_at, coords_of}

pub sum_step : (xs : List Float) (vs : List ℕ) (i : ℕ) → add_p (sum_to xs vs i) (point_at xs (get_or vs i 0)) ≡ sum_to xs vs (i + 1)
unfolding sum_to
sum_step xs vs i = ap (sum_to xs vs) (sym (add-one i))

-- a whole number up to 2 ^ 24 is a float
pub count_fits : (n : ℕ) → n ≤ 60000 → T (in_float binary32 (pos n))
unfolding in_float
count_fits n h = le→leb n 16777216 (omega arith)

pub length_part : (cs : List ℕ) (a n : ℕ) → a + n ≤ length cs → length (take n (drop a cs)) ≡ n
length_part cs a n h = simp (length-take, length-drop) (omega arith)

pub part-reach : (xs : List Float) (cs : List ℕ) (a n : ℕ) → a + n ≤ length cs → InReach xs cs → InReach xs (take n (drop a cs))
part-reach xs cs a n h r k l =
    let e = length_part cs a n h in
    let m : k < n = omega arith in
    rw (get_or-take n (drop a cs) k 0 m, get_or-drop a cs k 0) (r (a + k) (omega arith))

-- a point stored is its three coordinates stored
pub put-sets : (l : List Float) (v i : ℕ) (p : Point) → v * 3 ≡ i → put_at l v p ≡ sets l i (coords_of p)
put-sets l v i p e = rw (e, add-one i) (let z : i + 2 ≡ suc (suc i) = omega arith in rw z)
