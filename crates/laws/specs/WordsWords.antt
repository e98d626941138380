-- Laws of whole items, of four stores and of the patterns of a NaN, that no proof of their crate calls. Assumes nothing.
use Rattle.std.specs.Prelude.{◌≡◌, refl, Bool, true, false, not, cond, List, ℕ, suc, ◌+◌, ◌-◌, ◌%◌, ◌/◌, ◌<◌, ◌≤◌, length, set, T, eqb, leb}
use Rattle.std.proofs.Common.{sym, ap, ◌∙◌, arith, add-one, ne_eqb, le-ltb, le-leb, leb-true, leb-false}
use Rattle.std.proofs.lemmas.List.Edits.{sets}
use Rattle.std.specs.Float.{nan, inf, binary32}
use Rattle.std.specs.Float.Ieee.{nan_bits, of_bits, to_bits, of_fields}
use Rattle.std.specs.Float.Ieee.Bits.{nan_bits_above}
use Rattle.std.proofs.lemmas.Bool.{lt-leb}
use Rattle.words.specs.Words.{whole_at, bytes_of}

pub whole-past : (s : List ℕ) (at size : ℕ) → length s < at → whole_at s at size ≡ false
unfolding whole_at
whole-past s at size h = lt-leb (at + size) (length s) (omega arith)

pub whole_is : (s : List ℕ) (at size : ℕ) → at ≤ length s → leb size (length s - at) ≡ whole_at s at size
unfolding whole_at
whole_is s at size h = go (leb size (length s - at)) refl
  where
    go : (b : Bool) → leb size (length s - at) ≡ b → b ≡ leb (at + size) (length s)
    go true e = let w = leb-true size (length s - at) e in sym (le-leb (at + size) (length s) (omega arith))
    go false e = let w = leb-false size (length s - at) e in sym (lt-leb (at + size) (length s) (omega arith))

add-two : (n : ℕ) → n + 2 ≡ suc (suc n)
add-two n = omega arith

add-three : (n : ℕ) → n + 3 ≡ suc (suc (suc n))
add-three n = omega arith

-- four stores write a word
pub put-bytes :
    (l : List ℕ) (at w : ℕ) →
    set (set (set (set l at (w % 256)) (at + 1) (w / 256 % 256)) (at + 2) (w / 65536 % 256)) (at + 3) (w / 16777216) ≡ sets l at (bytes_of w)
unfolding bytes_of
put-bytes l at w = rw (add-one at, add-two at, add-three at) refl

-- ---- patterns of a NaN

-- a pattern up to infinity's, the sign apart, is no NaN's
pub no_nan : (b : ℕ) → b % 0x8000_0000 ≤ 0x7f80_0000 → T (not (nan_bits binary32 b))
no_nan b h = rw (nan_bits_above binary32 b, le-ltb 0x7f80_0000 (b % 0x8000_0000) h) tt

-- one past it is
pub is_nan : (b : ℕ) → b < 0x1_0000_0000 → 0x7f80_0000 < b % 0x8000_0000 → of_bits binary32 b ≡ nan
unfolding of_bits of_fields
is_nan b w h =
    let q : b % 0x8000_0000 / 0x80_0000 ≡ 255 = omega arith in
    let r : eqb (b % 0x80_0000) 0 ≡ false = ne_eqb (b % 0x80_0000) 0 (λ e. omega arith) in
    ap (λ (x : ℕ). of_fields binary32 (leb 0x8000_0000 b) x (b % 0x80_0000)) q ∙ ap (λ (z : Bool). cond z (inf (leb 0x8000_0000 b)) nan) r

-- the pattern that stands for every NaN
pub nan-bits : to_bits binary32 nan ≡ 0x7fc0_0000
unfolding to_bits
nan-bits = refl
