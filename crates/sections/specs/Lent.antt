-- A section on a mesh that is lent: its faces at a place, and all its faces. Definitions only.
use Rattle.std.specs.Prelude.{Bool, cond, List, [], ◌∷◌, ℕ}
use Rattle.picks.specs.declared.Masks.{Masks}
use Rattle.picks.specs.declared.Ready.{Ready}
use Rattle.rule.specs.Rule.{vertex_at, inner, splits, old, apexed, faces_at_place, section_of}
use Rattle.rule.specs.Numbering.{vertices}
use Rattle.rule.specs.declared.numbering.Numbering.{Numbering}
use Rattle.rule.specs.declared.Move.TheVariants.{Here}
use Rattle.rule.specs.declared.Slot.{Slot}
use Rattle.rule.specs.declared.Bases.{Bases}
use Rattle.rule.specs.declared.Section.{Section}

abbrev pub faces_on : Section → Masks → Ready → Bases → ℕ → List (List ℕ)
faces_on s k m b i = faces_at_place s b k.mask k.arities.now k.numbers.now m.offsets.now m.corners.now m.coords.now i

abbrev pub section_on : Section → Masks → Ready → Bases → List (List ℕ)
section_on s k m b = section_of s b k.mask k.arities.now k.numbers.now m.offsets.now m.corners.now m.coords.now

-- face f split at its corners where it is hit, its apex after those of n others; as it is where it is not
abbrev pub pick_faces : Bool → ℕ → List Slot → Numbering → ℕ → List (List ℕ)
pick_faces hit n rule q f =
    cond hit (splits (vertex_at q.offsets.now q.corners.now (apexed q.bases n)) rule q.offsets.now f) (inner (vertices q) q.offsets.now (old Here) f ∷ [])
