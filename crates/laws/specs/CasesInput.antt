-- Laws of the patterns of a NaN, that no proof of its crate calls. Assumes nothing.
use Rattle.std.specs.Prelude.{◌≡◌, ℕ, ◌/◌, ◌%◌, ◌<◌, ◌≤◌, Bool, false, cond, not, T, nat_eq, nat_le}
use Rattle.std.proofs.Common.{ap, ◌∙◌, arith, ne_eqb, le-ltb}
use Rattle.std.specs.Float.{nan, inf, binary32}
use Rattle.std.specs.Float.Ieee.{nan_bits, of_bits, of_fields}
use Rattle.std.specs.Float.Ieee.Bits.{nan_bits_above}

-- a pattern up to infinity's, the sign apart, is no NaN's
pub no_nan : (b : ℕ) → b % 0x8000_0000 ≤ 0x7f80_0000 → T (not (nan_bits binary32 b))
no_nan b h = rw (nan_bits_above binary32 b, le-ltb 0x7f80_0000 (b % 0x8000_0000) h) tt

-- one past it is
pub is_nan : (b : ℕ) → b < 0x1_0000_0000 → 0x7f80_0000 < b % 0x8000_0000 → of_bits binary32 b ≡ nan
unfolding of_bits of_fields
is_nan b w h =
    let q : b % 0x8000_0000 / 0x80_0000 ≡ 255 = omega arith in
    let r : nat_eq (b % 0x80_0000) 0 ≡ false = ne_eqb (b % 0x80_0000) 0 (λ e. omega arith) in
    ap (λ (x : ℕ). of_fields binary32 (nat_le 0x8000_0000 b) x (b % 0x80_0000)) q ∙ ap (λ (z : Bool). cond z (inf (nat_le 0x8000_0000 b)) nan) r
