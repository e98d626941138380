-- There are 22 bytes for each field that is left.
use Rattle.std.proofs.Common.{◌≤◌, ◌+◌, ◌*◌}
use Rattle.cases.proofs.text.write_fields.Given as goal

abbrev pub invariant-loop-k : goal.invariant-loop-k
invariant-loop-k g l = record { room : 176 ≤ l.start + 22 * l.k; in_bounds : l.start ≤ 176 }
