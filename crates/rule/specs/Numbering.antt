-- The vertices that slots name by a numbering. Definitions only.
use Rattle.std.specs.Prelude.{ℕ}
use Rattle.rule.specs.Rule.{vertex_at}
use Rattle.rule.specs.declared.Slot.{Slot}
use Rattle.rule.specs.declared.numbering.Numbering.{Numbering}

abbrev pub vertices : Numbering → Slot → ℕ → ℕ
vertices q = vertex_at q.offsets.now q.corners.now q.bases
