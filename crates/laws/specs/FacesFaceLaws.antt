-- Laws of the centroid of a face, that no proof of its crate calls. Assumes nothing.
use Rattle.std.specs.Prelude.{◌≡◌, refl, ℕ, List, length, Float}
use Rattle.std.proofs.Common.{ap, ◌∙◌}
use Rattle.point.specs.declared.Point.{Point}
use Rattle.point.specs.Vector.{zero_p, div_p}
use Rattle.faces.specs.Face.{sum_to, count_f, centroid_of}

pub sum-none : (xs : List Float) (vs : List ℕ) → sum_to xs vs 0 ≡ zero_p
unfolding sum_to
sum-none xs vs = refl

-- from the parts, as the code has them
pub centroid-is : (xs : List Float) (vs : List ℕ) (i : ℕ) (s : Point) → i ≡ length vs → s ≡ sum_to xs vs i → div_p s (count_f (length vs)) ≡ centroid_of xs vs
unfolding centroid_of
centroid-is xs vs i s e h = ap (λ (p : Point). div_p p (count_f (length vs))) (h ∙ ap (sum_to xs vs) e)
