-- Laws of the finite test by comparison with 1 / 0, that no proof of its crate calls. Assumes nothing.
use Rattle.std.specs.Prelude.{◌≡◌, refl, true, false, Float}
use Rattle.std.proofs.Common.{sym, ap, ◌∙◌}
use Rattle.std.specs.Float.{nan, inf, fin, binary32}
use Rattle.std.specs.Float.Ieee.{of_bits, div, neg, lt}
use Rattle.std.specs.Float.Ieee.Scale.{finite}

-- 1 / 0, as the code has it
abbrev pub endless : Float
endless = div binary32 (of_bits binary32 0x3f80_0000) (of_bits binary32 0)

pub endless-is : endless ≡ inf false
unfolding div of_bits
endless-is = refl

below : (x : Float) → lt x (inf false) ≡ true → lt (inf true) x ≡ finite x
unfolding lt
below nan e = refl
below (inf true) e = refl
below (inf false) e = sym e
below (fin s m d) e = refl

no-below : (x : Float) → lt x (inf false) ≡ false → finite x ≡ false
unfolding lt
no-below nan e = refl
no-below (inf s) e = refl
no-below (fin s m d) e = e

pub finite-so : (x : Float) → lt x endless ≡ true → lt (neg endless) x ≡ finite x
unfolding neg
finite-so x e = ap (λ (y : Float). lt (neg y) x) endless-is ∙ below x (ap (lt x) (sym endless-is) ∙ e)

pub finite-not : (x : Float) → lt x endless ≡ false → finite x ≡ false
finite-not x e = no-below x (ap (lt x) (sym endless-is) ∙ e)
