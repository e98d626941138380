-- Numbers that are not finite: the first of a list. And the two tests as std has them. Assumes nothing.
use Rattle.std.specs.Prelude.{◌≡◌, refl, Bool, true, false, cond, not, List, [], ◌∷◌, ℕ, suc, ◌+◌, length, get_or, Option, Float, position}
use Rattle.std.proofs.Common.{◌∙◌, arith}
use Rattle.std.specs.List.{position_or_len}
use Rattle.std.specs.Float.{float_is_finite, nan, inf, fin}
use Rattle.std.specs.Float.Ieee.Scale.{finite}
use Rattle.slices.specs.First.{first, lowest}

-- the number at i is not finite
abbrev pub not_finite : List Float → ℕ → Bool
not_finite x i = not (finite (get_or x i nan))

-- the lowest place whose number is not finite, the number of places where there is none
abbrev pub first_bad : List Float → ℕ
first_bad x = first (not_finite x) (length x)

-- what std's test answers
pub finite-is : (x : Float) → float_is_finite x ≡ finite x
unfolding float_is_finite
finite-is nan = refl
finite-is (inf s) = refl
finite-is (fin s m d) = refl

-- what std's search answers
onward : (p : Float → Bool) (x : List Float) (b : Bool) → position_or_len p x ≡ first (λ i. p (get_or x i nan)) (length x)
    → cond (not b) (1 + position_or_len p x) 0 ≡ cond b 0 (suc (first (λ i. p (get_or x i nan)) (length x)))
onward p x true e = refl
onward p x false e = omega (arith, e)

position-first : (p : Float → Bool) (x : List Float) → position_or_len p x ≡ first (λ i. p (get_or x i nan)) (length x)
unfolding first
position-first p [] = refl
position-first p (a ∷ x) = onward p x (p a) (position-first p x)

pub position_bad : (x : List Float) (r : Option ℕ) → r ≡ position (λ a. not (finite a)) x → r ≡ lowest (not_finite x) (length x)
unfolding lowest
position_bad x r e = e ∙ rw (position-first (λ a. not (finite a)) x) refl
