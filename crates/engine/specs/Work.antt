-- An operator at work, as its contracts see it: what its result has, how large it is, and the room for it. Definitions only.
use Rattle.std.specs.Prelude.{◌≡◌, List, ℕ, length, Float}
use Rattle.spots.specs.Points.{points_of, width_of}
use Rattle.spots.specs.declared.Points.{Points}
use Rattle.rule.specs.Flat.{flat}
use Rattle.rule.specs.declared.At.{At}
use Rattle.engine.specs.Plan.{plan_faces, plan_coords}
use Rattle.engine.specs.declared.Plan.{Plan}
use Rattle.engine.specs.declared.work.Sizes.{Sizes}
use Rattle.engine.specs.declared.work.Work.{Work}

-- a definition of a plan, of the lists of its masks and of a mesh
abbrev pub of_work : {A : Type 0} → (Plan → List ℕ → List ℕ → List ℕ → List ℕ → List Float → A) → Work → A
of_work f w = f w.plan w.masks.arities.now w.masks.numbers.now w.mesh.offsets.now w.mesh.corners.now w.mesh.coords.now

-- how many points a section has, and their coordinates
abbrev pub width_on : Work → Points → ℕ
width_on w q = width_of q w.plan.mask w.masks.arities.now w.masks.numbers.now w.mesh.offsets.now w.mesh.corners.now w.mesh.coords.now

abbrev pub points_on : Work → Points → List Float
points_on w q = points_of q w.plan.ratio w.plan.height w.plan.mask w.masks.arities.now w.masks.numbers.now w.mesh.offsets.now w.mesh.corners.now w.mesh.coords.now

-- how large its result is
pub record IsSize (w : Work) (r : Sizes) : Type 0 where
  pub faces : r.faces ≡ length (of_work plan_faces w)
  pub corners : r.corners ≡ length (flat (of_work plan_faces w))
  pub coords : r.coords ≡ length (of_work plan_coords w)

-- the first place that a face is written at, after the leading 0
abbrev pub front : At
front = record { offs = 1; cors = 0 }
