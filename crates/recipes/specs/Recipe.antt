-- A recipe with its ledger: what it comes to, and what it leaves in the lent slices. Definitions only.
use Rattle.std.specs.Prelude.{◌≡◌, cond, List, [], ◌∷◌, ◌++◌, ℕ, take, ltb}
use Rattle.slices.specs.Lists.{over}
use Rattle.mesh.specs.declared.MeshMut.{MeshMut}
use Rattle.plans.specs.Plans.{no_mask}
use Rattle.engine.specs.Answer.{Answer, Refused}
use Rattle.steps.specs.Steps.{Mesh, Room, Masks, masks}
use Rattle.steps.specs.declared.Step.{Step}
use Rattle.chain.specs.Lent.{held, space, AreKept}
use Rattle.chain.specs.Trail.{Trail, trail, stopped, Ended, Zero}
use Rattle.chain.specs.declared.Row.{Row}
use Rattle.chain.specs.declared.Ran.{Ran}
use Rattle.runner.specs.Run.{blanks}

-- in a recipe kis has no masks
abbrev pub unmasked : Masks
unmasked = masks no_mask [] []

-- two things are refused before step 1: more than 16 steps, then a ledger, here of so many rows, that is shorter than the recipe; else the
-- first n steps
unfoldable pub recipe_trail : ℕ → List Step → ℕ → Mesh → Room → Room → Room → Trail
unfolding trail
recipe_trail lent steps n w a b z = cond (ltb 16 n) (stopped 2 3) (cond (ltb lent n) (stopped 13 3) (trail unmasked (take n steps) 1 w a b z))

-- what is handed back of the second
abbrev pub short_ran : Ran
short_ran = record { answer = Refused 13 3 0; rows = blanks; done = 0 }

-- what a row past the end reads
abbrev pub blank : Row
blank = record { code = 0; v = 0; e = 0; f = 0 }

-- rows as flat numbers, four a row
abbrev pub flat_row : Row → List ℕ
flat_row r = r.code ∷ r.v ∷ r.e ∷ r.f ∷ []

unfoldable pub flat_rows : List Row → List ℕ
flat_rows [] = []
flat_rows (r ∷ rs) = flat_row r ++ flat_rows rs

-- a recipe with this trail, its finished steps' rows, the ledger l, the work meshes a and b and the output z, before and after it: on a
-- refusal too the finished rows are filled, and later ones are as they were
pub record Entered {A : Type 0} (t : Trail) (rows l : List A) (a b z : Mesh) (r : Answer) (l' : List A) (a' b' z' : Mesh) : Type 0 where
  pub ended : Ended t z.offsets z.corners z.coords r z'.offsets z'.corners z'.coords
  pub first : Zero a.offsets a.corners a.coords a'.offsets a'.corners a'.coords
  pub second : Zero b.offsets b.corners b.coords b'.offsets b'.corners b'.coords
  pub ledger : l' ≡ over rows l

-- a call of a recipe with the trail t of the lent rooms, whose ledger holds what `put` makes of the rows: what these hold before and after it
pub record Enters {A : Type 0} (put : List Row → List A) (t : Room → Room → Room → Trail) (l : List A) (a b z : MeshMut) (r : Answer) (l' : List A) (a' b' z' : MeshMut) : Type 0 where
  pub entered : Entered (t (space a) (space b) (space z)) (put (t (space a) (space b) (space z)).rows) l (held a) (held b) (held z) r l' (held a') (held b') (held z')
  pub kept : AreKept a b z a' b' z'
