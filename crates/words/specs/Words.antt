-- Words of four bytes, the lowest first: definitions and laws. Assumes nothing.
use Rattle.std.specs.Prelude.{◌≡◌, Bool, true, false, List, [], ◌∷◌, ◌++◌, ℕ, ◌+◌, ◌-◌, ◌*◌, ◌%◌, ◌/◌, ◌<◌, ◌≤◌, length, get_or, take, drop, leb}
use Rattle.std.proofs.Common.{sym, ap, ◌∙◌, arith, le-leb, leb-true, leb-false, append_assoc, drop-drop}
use Rattle.std.proofs.lemmas.List.Edits.{sets, sets-eq}
use Rattle.std.specs.Int.{w32, to_le_bytes}

-- four bytes, the lowest first
abbrev pub le32 : ℕ → ℕ → ℕ → ℕ → ℕ
le32 a b c d = a + b * 256 + c * 65536 + d * 16777216

-- the word at a byte
unfoldable pub word_at : List ℕ → ℕ → ℕ
word_at s at = le32 (get_or s at 0) (get_or s (at + 1) 0) (get_or s (at + 2) 0) (get_or s (at + 3) 0)

-- an item of so many bytes at a byte is whole
unfoldable pub whole_at : List ℕ → ℕ → ℕ → Bool
whole_at s at size = leb (at + size) (length s)

-- the bytes of a word
unfoldable pub bytes_of : ℕ → List ℕ
bytes_of w = (w % 256) ∷ (w / 256 % 256) ∷ (w / 65536 % 256) ∷ (w / 16777216) ∷ []

pub whole-true : (s : List ℕ) (at size : ℕ) → at ≤ length s → size ≤ length s - at → whole_at s at size ≡ true
unfolding whole_at
whole-true s at size h l = le-leb (at + size) (length s) (omega arith)

-- what is whole lies within
pub whole_in : (s : List ℕ) (at size : ℕ) → whole_at s at size ≡ true → at + size ≤ length s
unfolding whole_at
whole_in s at size e = leb-true (at + size) (length s) e

pub whole_out : (s : List ℕ) (at size : ℕ) → whole_at s at size ≡ false → length s < at + size
unfolding whole_at
whole_out s at size e = leb-false (at + size) (length s) e

-- the bytes of a word in the place of four
pub bytes_put : (l b : List ℕ) (at n w : ℕ) → n ≡ 4 → at + 4 ≤ length l → w < 0x1_0000_0000 → b ≡ to_le_bytes w32 w → take at l ++ (b ++ drop n (drop at l)) ≡ sets l at (bytes_of w)
unfolding bytes_of
bytes_put l b at n w k h f e =
    let m : w / 16777216 % 256 ≡ w / 16777216 = omega arith in
    let g : b ≡ bytes_of w = e ∙ ap (λ (x : ℕ). (w % 256) ∷ (w / 256 % 256) ∷ (w / 65536 % 256) ∷ x ∷ []) m in
    rw (g, k, drop-drop) (sym (sets-eq (bytes_of w) l at h ∙ append_assoc (take at l) (bytes_of w) (drop (at + 4) l)))
