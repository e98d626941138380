-- Words of four bytes, the lowest first, at the front of what a reader holds. Assumes nothing.
use Rattle.std.specs.Prelude.{◌≡◌, ℕ, ◌+◌, ◌*◌, ◌<◌, ◌≤◌, List, Option, Some, None, ⊤, length, drop, slice_index}

-- four bytes, the lowest first
abbrev pub le32 : ℕ → ℕ → ℕ → ℕ → ℕ
le32 a b c d = a + b * 256 + c * 65536 + d * 16777216

-- the word i of a run of bytes
abbrev pub word_at : List ℕ → ℕ → ℕ
word_at s i = le32 (slice_index s (4 * i)) (slice_index s (4 * i + 1)) (slice_index s (4 * i + 2)) (slice_index s (4 * i + 3))

-- a reader that held these bytes, where they are known, gave these words and holds the rest
abbrev pub TakesWords : Option (List ℕ) → Option (List ℕ) → List ℕ → Type 0
TakesWords None new words = ⊤
TakesWords (Some xs) None words = ⊥
TakesWords (Some xs) (Some ys) words =
    (4 * length words ≤ length xs) × ((k : ℕ) → k < length words → slice_index words k ≡ word_at xs k) × (ys ≡ drop (4 * length words) xs)
