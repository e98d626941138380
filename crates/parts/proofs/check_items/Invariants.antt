use Rattle.std.specs.Prelude.{◌≡◌, ℕ, ◌+◌, ◌-◌, ◌*◌, ◌<◌, ◌≤◌}
use Rattle.parts.specs.Part.{Part}
use Rattle.parts.specs.Parts.{items}
use Rattle.parts.proofs.check_items.Given as goal

abbrev pub invariant-loop : goal.invariant-loop
invariant-loop g l =
    (l.at ≤ 20000 + 16 * l.counter)
    × ((say : ℕ → Part) → ((at : ℕ) (r : Part) → at < 4294967296 → goal.F-post g l.says at r → r ≡ say at) →
    items say l.size l.at (l.n - l.counter) ≡ items say l.size l.from l.n)
