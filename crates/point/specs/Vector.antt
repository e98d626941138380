-- Vector arithmetic as the paper has it: each operation of binary32 rounded, in the order written. Definitions only.
use Rattle.std.specs.Prelude.{Float, cond}
use Rattle.std.specs.Float.{binary32}
use Rattle.std.specs.Float.Ieee.{of_bits}
use Rattle.std.specs.Float.Ieee as Ieee
use Rattle.root.specs.Sqrt.{root32}
use Rattle.slices.specs.Lists.{zero_f}
use Rattle.point.specs.declared.Point.{Point}

infixl 20 ◌+ᶠ◌
abbrev pub ◌+ᶠ◌ : Float → Float → Float
a +ᶠ b = Ieee.add binary32 a b

infixl 20 ◌-ᶠ◌
abbrev pub ◌-ᶠ◌ : Float → Float → Float
a -ᶠ b = Ieee.sub binary32 a b

infixl 30 ◌*ᶠ◌
abbrev pub ◌*ᶠ◌ : Float → Float → Float
a *ᶠ b = Ieee.mul binary32 a b

infixl 30 ◌/ᶠ◌
abbrev pub ◌/ᶠ◌ : Float → Float → Float
a /ᶠ b = Ieee.div binary32 a b

abbrev pub one_f : Float
one_f = of_bits binary32 0x3f80_0000

abbrev pub zero_p : Point
zero_p = record { x = zero_f; y = zero_f; z = zero_f }

abbrev pub add_p : Point → Point → Point
add_p p q = record { x = p.x +ᶠ q.x; y = p.y +ᶠ q.y; z = p.z +ᶠ q.z }

abbrev pub sub_p : Point → Point → Point
sub_p p q = record { x = p.x -ᶠ q.x; y = p.y -ᶠ q.y; z = p.z -ᶠ q.z }

abbrev pub scale_p : Point → Float → Point
scale_p p k = record { x = p.x *ᶠ k; y = p.y *ᶠ k; z = p.z *ᶠ k }

abbrev pub div_p : Point → Float → Point
div_p p k = record { x = p.x /ᶠ k; y = p.y /ᶠ k; z = p.z /ᶠ k }

abbrev pub dot_p : Point → Point → Float
dot_p p q = ((p.x *ᶠ q.x) +ᶠ (p.y *ᶠ q.y)) +ᶠ (p.z *ᶠ q.z)

abbrev pub cross_p : Point → Point → Point
cross_p p q = record {
  x = (p.y *ᶠ q.z) -ᶠ (p.z *ᶠ q.y);
  y = (p.z *ᶠ q.x) -ᶠ (p.x *ᶠ q.z);
  z = (p.x *ᶠ q.y) -ᶠ (p.y *ᶠ q.x);
}

abbrev pub mag_sq_p : Point → Float
mag_sq_p p = dot_p p p

abbrev pub mag_p : Point → Float
mag_p p = root32 (mag_sq_p p)

abbrev pub normalized_p : Point → Point
normalized_p p = div_p p (mag_p p)

abbrev pub orthogonal_p : Point → Point → Point → Point
orthogonal_p p q r = cross_p (sub_p q p) (sub_p r q)

-- a ratio clamped to 0..1: -0 is not below 0, and stays
abbrev pub clamp_f : Float → Float
clamp_f x = cond (Ieee.lt x zero_f) zero_f (cond (Ieee.lt one_f x) one_f x)
