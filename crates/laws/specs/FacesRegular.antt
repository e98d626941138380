-- Laws of the sides of a face and of a regular face, that no proof of their crate calls. Assumes nothing.
use Rattle.std.specs.Prelude.{◌≡◌, refl, ℕ, ◌+◌, List, length, Float}
use Rattle.std.proofs.Common.{sym, ap, ◌∙◌, add-one}
use Rattle.std.specs.Float.Ieee.{lt}
use Rattle.faces.specs.declared.Sides.{Sides}
use Rattle.point.specs.Vector.{◌-ᶠ◌, ◌/ᶠ◌, one_f}
use Rattle.faces.specs.Regular.{side_of, larger, smaller, sides_to, abs_f, tenth, even, regular_of}

pub sides-none : (xs : List Float) (vs : List ℕ) → sides_to xs vs 0 ≡ record { long = side_of xs vs 0; short = side_of xs vs 0 }
unfolding sides_to
sides-none xs vs = refl

pub sides-step : (xs : List Float) (vs : List ℕ) (i : ℕ)
    → ◌≡◌ {A = Sides} (record { long = larger (sides_to xs vs i).long (side_of xs vs i); short = smaller (sides_to xs vs i).short (side_of xs vs i) }) (sides_to xs vs (i + 1))
unfolding sides_to
sides-step xs vs i = ap (sides_to xs vs) (sym (add-one i))

-- from the parts, as the code has them
pub regular-is : (xs : List Float) (vs : List ℕ) (s : Sides) (a : Float) → s ≡ sides_to xs vs (length vs) → a ≡ abs_f ((s.long /ᶠ s.short) -ᶠ one_f) → lt a tenth ≡ regular_of xs vs
unfolding even regular_of
regular-is xs vs s a e h = ap (λ (x : Float). lt x tenth) h ∙ ap even e
