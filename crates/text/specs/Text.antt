-- What the contracts cite: a number as text, and a text written into a lent run of bytes. Assumes nothing.
use Rattle.std.specs.Prelude.{◌≡◌, cond, List, [], ◌∷◌, ◌++◌, ℕ, zero, suc, ◌+◌, ◌/◌, ◌%◌, ltb, length}
use Rattle.std.proofs.lemmas.List.Edits.{sets}

-- the ASCII codes of n's decimal digits, no zeros in front, where k digits are enough
unfoldable pub decimal_in : ℕ → ℕ → List ℕ
decimal_in zero n = []
decimal_in (suc k) n = cond (ltb n 10) ((48 + n) ∷ []) (decimal_in k (n / 10) ++ ((48 + n % 10) ∷ []))

-- the same for any number of 64 bits, as 20 digits hold them all
unfoldable pub decimal : ℕ → List ℕ
decimal n = decimal_in 20 n

-- The text s written from the place at on: r is where it ends, and old and new are the lent bytes before and after.
-- What lies past the end of the lent bytes is not written.
pub record Put (s : List ℕ) (at : ℕ) (old : List ℕ) (r : ℕ) (new : List ℕ) : Type 0 where
  pub end : r ≡ at + length s
  pub text : new ≡ sets old at s
