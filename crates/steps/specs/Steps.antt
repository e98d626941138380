-- A step: its code, and what it comes to on a mesh. Definitions only.
use Rattle.std.specs.Prelude.{true, List, ℕ, length, Float}
use Rattle.picks.specs.declared.Mask.{Mask}
use Rattle.engine.specs.Result.{Outcome}
use Rattle.operators.specs.Operators.{reverse_outcome, reflect_outcome, triangulate_outcome, ambo_outcome, dual_outcome, kis_outcome, chamfer_outcome, gyro_outcome, propellor_outcome, whirl_outcome, quinto_outcome}
use Rattle.steps.specs.declared.Step.{Step}
use Rattle.steps.specs.declared.Step.TheVariants.{Ambo, Chamfer, Dual, Gyro, Kis, Propellor, Quinto, Reflect, Reverse, Whirl, Triangulate}

abbrev pub code_of : Step → ℕ
code_of (Ambo t) = 1
code_of (Chamfer t) = 2
code_of Dual = 3
code_of (Gyro t h) = 4
code_of (Kis h) = 5
code_of (Propellor t) = 6
code_of (Quinto h) = 7
code_of Reflect = 8
code_of Reverse = 9
code_of (Whirl t h) = 10
code_of Triangulate = 11

-- the masks of kis, with their lists of arities l and of face numbers n, stand beside the step; triangulate by its default, the shorter diagonals
abbrev pub step_outcome : Step → Mask → List ℕ → List ℕ → List ℕ → List ℕ → List Float → ℕ → ℕ → ℕ → Outcome
step_outcome (Ambo t) m l n o k x lo lc lx = ambo_outcome o k x t lo lc lx
step_outcome (Chamfer t) m l n o k x lo lc lx = chamfer_outcome o k x t lo lc lx
step_outcome Dual m l n o k x lo lc lx = dual_outcome o k x lo lc lx
step_outcome (Gyro t h) m l n o k x lo lc lx = gyro_outcome o k x t h lo lc lx
step_outcome (Kis h) m l n o k x lo lc lx = kis_outcome o k x h m l n lo lc lx
step_outcome (Propellor t) m l n o k x lo lc lx = propellor_outcome o k x t lo lc lx
step_outcome (Quinto h) m l n o k x lo lc lx = quinto_outcome o k x h lo lc lx
step_outcome Reflect m l n o k x lo lc lx = reflect_outcome o k x lo lc lx
step_outcome Reverse m l n o k x lo lc lx = reverse_outcome o k x lo lc lx
step_outcome (Whirl t h) m l n o k x lo lc lx = whirl_outcome o k x t h lo lc lx
step_outcome Triangulate m l n o k x lo lc lx = triangulate_outcome o k x true lo lc lx

-- ---- meshes, and the room that is lent for one

pub record Mesh : Type 0 where
  pub offsets : List ℕ
  pub corners : List ℕ
  pub coords : List Float

pub record Room : Type 0 where
  pub offsets : ℕ
  pub corners : ℕ
  pub coords : ℕ

abbrev pub mesh : List ℕ → List ℕ → List Float → Mesh
mesh o k x = record { offsets = o; corners = k; coords = x }

abbrev pub room : List ℕ → List ℕ → List Float → Room
room o k x = record { offsets = length o; corners = length k; coords = length x }

-- the masks of kis that stand beside the steps: which are given, the arities and the face numbers
pub record Masks : Type 0 where
  pub given : Mask
  pub arities : List ℕ
  pub numbers : List ℕ

abbrev pub masks : Mask → List ℕ → List ℕ → Masks
masks m l n = record { given = m; arities = l; numbers = n }

-- one step on a mesh, into so much room
abbrev pub step_on : Masks → Step → Mesh → Room → Outcome
step_on m s w r = step_outcome s m.given m.arities m.numbers w.offsets w.corners w.coords r.offsets r.corners r.coords
