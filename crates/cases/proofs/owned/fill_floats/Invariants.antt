-- Those before the index are filled.
use Rattle.std.proofs.Common.{◌≡◌, ℕ, ◌+◌, ◌%◌, ◌^◌, ◌<◌, get_or}
use Rattle.std.specs.Prelude.{Float, from_bits}
use Rattle.std.specs.Float.{binary32}
use Rattle.cases.proofs.owned.fill_floats.Given as goal

abbrev pub invariant-loop-x : goal.invariant-loop-x
invariant-loop-x l = record {
  next : l.next ≡ (l.fill + l.x-index) % 2 ^ 32;
  each : (d : Float) (k : ℕ) → k < l.x-index → get_or l.list k d ≡ from_bits binary32 ((l.fill + k) % 2 ^ 32);
}
