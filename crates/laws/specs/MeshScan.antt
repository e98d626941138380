-- The law of a scan that has passed over nothing, that no proof of its crate calls. Assumes nothing.
use Rattle.std.specs.Prelude.{ℕ, ◌≤◌, ◌<◌, Bool}
use Rattle.std.proofs.Common.{arith}
use Rattle.mesh.specs.Scan.{Skipped}

pub skipped-none : (p : ℕ → Bool) (n i : ℕ) → i ≤ n → Skipped p n i i
skipped-none p n i h = record { ahead = omega arith; within = h; between = λ k a b. absurd (let z : k < k = omega (arith, a, b) in omega (arith, z)) }
