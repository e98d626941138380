-- Demand 3, closed stays closed, over what the operators answer: what it says. Definitions only.
use Rattle.std.specs.Prelude.{Ok, Err, ◌≡◌, Bool, true, false, cond, ◌||◌, List, [], ◌∷◌, ℕ, ◌+◌, ◌*◌, ◌/◌, length, take, eqb, Float}
use Rattle.slices.specs.Lists.{each}
use Rattle.mesh.specs.Mesh.{faces, run}
use Rattle.mesh.specs.Tests.{verdict, tests}
use Rattle.mesh.specs.Verdict.{Good}
use Rattle.picks.specs.Picks.{picked}
use Rattle.rule.specs.Flat.{flat, offsets_of}
use Rattle.engine.specs.Result.{Outcome, refused, result}
use Rattle.engine.specs.declared.Counts.{Counts}
use Rattle.engine.specs.Answer.{Answer}
use Rattle.steps.specs.Steps.{Mesh, Room, Masks, mesh, step_on}
use Rattle.steps.specs.declared.Step.{Step}
use Rattle.steps.specs.declared.Step.TheVariants.{Ambo, Chamfer, Dual, Gyro, Kis, Propellor, Quinto, Reflect, Reverse, Whirl, Triangulate}

-- the steps that demand 3 speaks of
abbrev pub steady : Step → Bool
steady (Ambo t) = false
steady (Chamfer t) = true
steady Dual = false
steady (Gyro t h) = true
steady (Kis h) = true
steady (Propellor t) = true
steady (Quinto h) = true
steady Reflect = false
steady Reverse = false
steady (Whirl t h) = true
steady Triangulate = false

-- V, E and F of a mesh: all positions, half the corners, the faces
abbrev pub positions_in : Mesh → ℕ
positions_in w = length w.coords / 3

abbrev pub edges_in : Mesh → ℕ
edges_in w = length w.corners / 2

abbrev pub faces_in : Mesh → ℕ
faces_in w = faces w.offsets

-- a mesh with finite coordinates and within the limits that passes 5 to 9
abbrev pub Passes : Mesh → Type 0
Passes w = verdict (tests w.offsets w.corners w.coords) ≡ Good

-- how many corners the faces have that kis picks
abbrev pub corners_picked : Masks → Mesh → ℕ
corners_picked m w =
    length (each (λ f. cond (picked m.given m.arities m.numbers w.offsets w.corners w.coords f) (run w.offsets w.corners f) []) (faces_in w))

-- E after a step
abbrev pub edges_after : Masks → Step → Mesh → ℕ
edges_after m (Chamfer t) w = 4 * edges_in w
edges_after m (Gyro t h) w = 5 * edges_in w
edges_after m (Propellor t) w = 5 * edges_in w
edges_after m (Whirl t h) w = 7 * edges_in w
edges_after m (Quinto h) w = 6 * edges_in w
edges_after m (Kis h) w = edges_in w + corners_picked m w
edges_after m (Ambo t) w = edges_in w
edges_after m Dual w = edges_in w
edges_after m Reflect w = edges_in w
edges_after m Reverse w = edges_in w
edges_after m Triangulate w = edges_in w

-- V - E + F is the same of two meshes
abbrev pub SameX : Mesh → Mesh → Type 0
SameX w v = positions_in v + faces_in v + edges_in w ≡ positions_in w + faces_in w + edges_in v

-- the mesh v that a step makes of the mesh w: it passes again, E has grown as it should, and V - E + F is the same
pub record Kept (m : Masks) (s : Step) (w v : Mesh) : Type 0 where
  pub passes : Passes v
  pub edges : edges_in v ≡ edges_after m s w
  pub same : SameX w v

-- the refusals that are left: for a parameter (3), a limit (12), room (13) or a result that isn't finite (14)
abbrev pub excused : ℕ → Bool
excused n = eqb n 3 || (eqb n 12 || (eqb n 13 || eqb n 14))

abbrev pub Lasts : Masks → Step → Mesh → Outcome → Type 0
Lasts m s w (refused n p) = excused n ≡ true
Lasts m s w (result fs xs) = Kept m s w (mesh (offsets_of fs) (flat fs) xs)

-- ---- lists of steps: each with its masks and the room that it is lent

pub record Turn : Type 0 where
  pub step : Step
  pub masks : Masks
  pub room : Room

abbrev pub turn_on : Turn → Mesh → Outcome
turn_on t w = step_on t.masks t.step w t.room

unfoldable pub all_steady : List Turn → Bool
all_steady [] = true
all_steady (t ∷ ts) = cond (steady t.step) (all_steady ts) false

-- where a step is done, P of the mesh made
abbrev pub After : Outcome → (Mesh → Type 0) → Type 0
After (refused n p) P = Unit
After (result fs xs) P = P (mesh (offsets_of fs) (flat fs) xs)

-- at each step, on the mesh made before it
unfoldable pub Lasting : List Turn → Mesh → Type 0
Lasting [] w = Unit
Lasting (t ∷ ts) w = Lasts t.masks t.step w (turn_on t w) × After (turn_on t w) (Lasting ts)

-- what demand 3 says
abbrev pub Demand3 : Type 0
Demand3 = (ts : List Turn) (w : Mesh) → all_steady ts ≡ true → Passes w → Lasting ts w

-- ---- the mesh v that is there when every step is done
abbrev pub Into : Outcome → (Mesh → Type 0) → Type 0
Into (refused n p) P = ⊥
Into (result fs xs) P = P (mesh (offsets_of fs) (flat fs) xs)

unfoldable pub Reached : List Turn → Mesh → Mesh → Type 0
Reached [] w v = w ≡ v
Reached (t ∷ ts) w v = Into (turn_on t w) (λ u. Reached ts u v)

-- ---- the same in what a function answers

-- the mesh with these counts at the front of lent slices
abbrev pub front : Counts → List ℕ → List ℕ → List Float → Mesh
front c o k x = mesh (take (c.f + 1) o) (take (2 * c.e) k) (take (3 * c.v) x)

-- a step that was done on the mesh w: V, E and F, and the mesh that the lent slices then hold
pub record Stays (m : Masks) (s : Step) (w : Mesh) (c : Counts) (o k : List ℕ) (x : List Float) : Type 0 where
  pub edges : c.e ≡ edges_after m s w
  pub same : c.v + c.f + edges_in w ≡ positions_in w + faces_in w + c.e
  pub passes : Passes (front c o k x)

-- it was done, or there is an excuse; outside a list the step is 0
abbrev pub Answers : Masks → Step → Mesh → Answer → List ℕ → List ℕ → List Float → Type 0
Answers m s w (Ok c) o k x = Stays m s w c o k x
Answers m s w (Err r) o k x = (excused r.number ≡ true) × (r.step ≡ 0)
