-- Laws of the average normal, that no proof of its crate calls. Assumes nothing.
use Rattle.std.specs.Prelude.{◌≡◌, refl, ℕ, ◌+◌, List, true, false, Float, length}
use Rattle.std.proofs.Common.{sym, ap, add-one, eq-eqb, ne_eqb}
use Rattle.std.specs.Float.Ieee.{lt}
use Rattle.faces.specs.Face.{count_f, centroid_of}
use Rattle.root.specs.Sqrt.{root32}
use Rattle.point.specs.declared.Point.{Point}
use Rattle.faces.specs.declared.Tally.{Tally}
use Rattle.point.specs.Vector.{sub_p, div_p, mag_sq_p, normalized_p}
use Rattle.faces.specs.Normal.{limit, no_tally, taken, corner_normal, tally_to, averaged, average_normal_of}

pub tally-none : (xs : List Float) (vs : List ℕ) → tally_to xs vs 0 ≡ no_tally
unfolding tally_to
tally-none xs vs = refl

pub tally-step : (xs : List Float) (vs : List ℕ) (i : ℕ) → taken (tally_to xs vs i) (corner_normal xs vs i) ≡ tally_to xs vs (i + 1)
unfolding tally_to
tally-step xs vs i = ap (tally_to xs vs) (sym (add-one i))

pub taken_not : (t : Tally) (o : Point) → lt (mag_sq_p o) limit ≡ true → taken t o ≡ t
unfolding taken
taken_not t o e = rw e

pub taken-so : (t : Tally) (o : Point) → lt (mag_sq_p o) limit ≡ false → taken t o ≡ record { sum = sub_p t.sum (div_p o (root32 (mag_sq_p o))); seen = t.seen + 1 }
unfolding taken
taken-so t o e = rw e

pub averaged-none : (t : Tally) (p : Point) → t.seen ≡ 0 → averaged t p ≡ normalized_p p
unfolding averaged
averaged-none t p e = rw (eq-eqb t.seen 0 e)

pub averaged-some : (t : Tally) (p : Point) → (t.seen ≡ 0 → ⊥) → averaged t p ≡ div_p t.sum (count_f t.seen)
unfolding averaged
averaged-some t p e = rw (ne_eqb t.seen 0 e)

-- from the parts, as the code has them
pub average-is : (xs : List Float) (vs : List ℕ) (t : Tally) → t ≡ tally_to xs vs (length vs) → averaged t (centroid_of xs vs) ≡ average_normal_of xs vs
unfolding average_normal_of
average-is xs vs t e = ap (λ (u : Tally). averaged u (centroid_of xs vs)) e
