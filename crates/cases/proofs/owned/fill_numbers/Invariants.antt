-- Those before the index are filled.
use Rattle.std.proofs.Common.{◌≡◌, ℕ, ◌+◌, ◌%◌, ◌^◌, ◌<◌, get_or}
use Rattle.cases.proofs.owned.fill_numbers.Given as goal

abbrev pub invariant-loop-n : goal.invariant-loop-n
invariant-loop-n l = record {
  next : l.next ≡ (l.fill + l.n-index) % 2 ^ 32;
  each : (k : ℕ) → k < l.n-index → get_or l.list k 0 ≡ (l.fill + k) % 2 ^ 32;
}
