-- The law of a store past the end of a text, that no proof of its crate calls. Assumes nothing.
use Rattle.std.specs.Prelude.{◌≡◌, refl, List, [], ◌∷◌, ℕ, zero, suc, ◌≤◌, length, set}
use Rattle.std.proofs.Common.{ap, arith}

-- past the end nothing is stored
pub set_past : (l : List ℕ) (i a : ℕ) → length l ≤ i → l ≡ set l i a
set_past [] i a h = refl
set_past (x ∷ l) zero a h = absurd (omega arith)
set_past (x ∷ l) (suc i) a h = ap (λ (t : List ℕ). x ∷ t) (set_past l i a (omega arith))
