-- The rules of the six operators that keep a mesh closed: what stands at each place of a new face, seen from a corner of the old mesh. Definitions only.
use Rattle.std.specs.Prelude.{List, [], ◌∷◌}
use Rattle.rule.specs.Rule.{old, dir, edge, cor, face, apex}
use Rattle.rule.specs.declared.Slot.{Slot}
use Rattle.rule.specs.declared.Move.TheVariants.{Here, Next, Prev, Mate, MateNext, Turn}

-- a pentagon a corner
abbrev pub gyro_rule : List Slot
gyro_rule = old Here ∷ dir Here ∷ face ∷ dir Prev ∷ dir Turn ∷ []

-- a quadrilateral a corner
abbrev pub propellor_rule : List Slot
propellor_rule = old Here ∷ dir Mate ∷ dir Here ∷ dir Prev ∷ []

-- a hexagon a corner
abbrev pub whirl_rule : List Slot
whirl_rule = dir Here ∷ dir Mate ∷ old Next ∷ dir Next ∷ cor Next ∷ cor Here ∷ []

-- a pentagon a corner
abbrev pub quinto_rule : List Slot
quinto_rule = old Here ∷ edge Here ∷ cor Here ∷ cor Prev ∷ edge Prev ∷ []

-- a hexagon an ascending corner
abbrev pub chamfer_rule : List Slot
chamfer_rule = old Here ∷ cor MateNext ∷ cor Mate ∷ old Next ∷ cor Next ∷ cor Here ∷ []

-- a triangle a corner of a picked face
abbrev pub kis_rule : List Slot
kis_rule = old Here ∷ old Next ∷ apex ∷ []
