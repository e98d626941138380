-- Those before the index are filled.
use Rattle.std.proofs.Common.{◌≡◌, ℕ, ◌+◌, ◌*◌, ◌%◌, ◌^◌, ◌<◌, List, [], ◌∷◌, get_or}
use Rattle.cases.proofs.owned.fill_pairs.Given as goal

abbrev pub invariant-loop-pair : goal.invariant-loop-pair
invariant-loop-pair l = record {
  next : l.next ≡ (l.fill + 2 * l.pair-index) % 2 ^ 32;
  each : (d : List ℕ) (k : ℕ) → k < l.pair-index → get_or l.list k d ≡ (l.fill + 2 * k) % 2 ^ 32 ∷ (l.fill + 2 * k + 1) % 2 ^ 32 ∷ [];
}
