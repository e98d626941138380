-- A regular face: its longest side over its shortest, minus 1, in absolute value under 0.1. Definitions and laws.
use Rattle.std.specs.Prelude.{◌≡◌, refl, ℕ, zero, suc, ◌+◌, ℤ, Bool, true, false, cond, List, length, Float}
use Rattle.std.proofs.Common.{sym, ◌∙◌, arith, le-ltb, ltb-false, lt-ltb}
use Rattle.std.specs.Float.{binary32, float_with_sign, nan, inf, fin}
use Rattle.std.specs.Float.Ieee.{of_bits, lt, neg}
use Rattle.std.specs.Float.Ieee.Fits.{down_pos}
use Rattle.faces.specs.declared.Sides.{Sides}
use Rattle.point.specs.Vector.{◌-ᶠ◌, ◌/ᶠ◌, one_f, sub_p, mag_p}
use Rattle.slices.specs.Lists.{zero_f}
use Rattle.faces.specs.Normal.{round_at}

-- the side from the corner i to the next one round
unfoldable pub side_of : List Float → List ℕ → ℕ → Float
side_of xs vs i = mag_p (sub_p (round_at xs vs i) (round_at xs vs (i + 1)))

abbrev pub larger : Float → Float → Float
larger a b = cond (lt a b) b a

abbrev pub smaller : Float → Float → Float
smaller a b = cond (lt b a) b a

-- the longest and the shortest with a side of length d
abbrev pub widened : Sides → Float → Sides
widened s d = record { long = larger s.long d; short = smaller s.short d }

-- the longest and the shortest of the first side and the first i sides
unfoldable pub sides_to : List Float → List ℕ → ℕ → Sides
sides_to xs vs zero = record { long = side_of xs vs 0; short = side_of xs vs 0 }
sides_to xs vs (suc i) = widened (sides_to xs vs i) (side_of xs vs i)

abbrev pub abs_f : Float → Float
abs_f x = cond (lt x zero_f) (neg x) x

-- 0.1 as an f32
abbrev pub tenth : Float
tenth = of_bits binary32 0x3dcc_cccd

unfoldable pub even : Sides → Bool
even s = lt (abs_f ((s.long /ᶠ s.short) -ᶠ one_f)) tenth

unfoldable pub regular_of : List Float → List ℕ → Bool
regular_of xs vs = even (sides_to xs vs (length vs))

-- a number with a plus is not below 0; one with a minus is, or it is -0, which is under a tenth as 0 is
plus-zero : (m : ℕ) (e : ℤ) → lt (fin false m e) zero_f ≡ false
unfolding lt of_bits
plus-zero m e = le-ltb _ _ (omega arith)

minus-zero : (m : ℕ) (e : ℤ) (b : Bool) → lt (fin true m e) zero_f ≡ b → lt (fin false m e) tenth ≡ lt (cond b (fin false m e) (fin true m e)) tenth
unfolding lt of_bits
minus-zero m e true h = refl
minus-zero m e false h =
    let l = down_pos e in
    let z = ltb-false _ _ h in
    lt-ltb _ _ (omega arith) ∙ sym (lt-ltb _ _ (omega arith))

-- std's absolute value, which is 0 at -0, passes the same test
pub abs_under : (x : Float) → lt (float_with_sign false x) tenth ≡ lt (abs_f x) tenth
unfolding lt neg of_bits float_with_sign
abs_under nan = refl
abs_under (inf false) = refl
abs_under (inf true) = refl
abs_under (fin false m e) = rw (plus-zero m e) refl
abs_under (fin true m e) = minus-zero m e (lt (fin true m e) zero_f) refl
