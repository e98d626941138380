-- A list of steps: what it comes to, step by step, through two work meshes. Definitions only.
use Rattle.std.specs.Prelude.{◌≡◌, List, [], ◌∷◌, ℕ, ◌+◌, length, replicate, Float}
use Rattle.slices.specs.Lists.{zero_f}
use Rattle.rule.specs.Flat.{flat, offsets_of}
use Rattle.engine.specs.Result.{Outcome, refused, result, counts_of, offsets_after, corners_after, coords_after}
use Rattle.engine.specs.Answer.{Answer, Done, Refused}
use Rattle.steps.specs.Steps.{Mesh, Room, Masks, mesh, code_of, step_on}
use Rattle.steps.specs.declared.Step.{Step}
use Rattle.copies.specs.Copy.{copy_outcome}
use Rattle.chain.specs.declared.Row.{Row}

-- ---- what a list of steps comes to

-- a row a finished step; the step that was refused, 0 where none was; the last mesh made, or the refusal
pub record Trail : Type 0 where
  pub rows : List Row
  pub step : ℕ
  pub end : Outcome

-- the row of a step and the mesh that it made
abbrev pub row_of : Step → List (List ℕ) → List Float → Row
row_of s fs xs = record { code = code_of s; v = (counts_of fs xs).v; e = (counts_of fs xs).e; f = (counts_of fs xs).f }

-- no step is left after this one, which is step i
abbrev pub lastly : Step → ℕ → Outcome → Trail
lastly s i (refused n p) = record { rows = []; step = i; end = refused n p }
lastly s i (result fs xs) = record { rows = row_of s fs xs ∷ []; step = 0; end = result fs xs }

-- the steps go on from the mesh made
abbrev pub onward : Step → ℕ → Outcome → (Mesh → Trail) → Trail
onward s i (refused n p) go = record { rows = []; step = i; end = refused n p }
onward s i (result fs xs) go =
    record {
      rows = row_of s fs xs ∷ (go (mesh (offsets_of fs) (flat fs) xs)).rows;
      step = (go (mesh (offsets_of fs) (flat fs) xs)).step;
      end = (go (mesh (offsets_of fs) (flat fs) xs)).end;
    }

-- the steps from step i on, on the mesh w: this one writes into the room a, the next into b, and so in turn, the last one into the room z
-- of the output; no steps copy the mesh
unfoldable pub trail : Masks → List Step → ℕ → Mesh → Room → Room → Room → Trail
unfolding copy_outcome
trail m [] i w a b z = record { rows = []; step = 0; end = copy_outcome w.offsets w.corners w.coords z.offsets z.corners z.coords }
trail m (s ∷ []) i w a b z = lastly s i (step_on m s w z)
trail m (s ∷ (t ∷ ts)) i w a b z = onward s i (step_on m s w a) (λ (v : Mesh). trail m (t ∷ ts) (i + 1) v b a z)

-- refused before the first step
abbrev pub stopped : ℕ → ℕ → Trail
stopped n p = record { rows = []; step = 0; end = refused n p }

-- ---- the answer, and what is left in the lent slices

abbrev pub answer_at : ℕ → Outcome → Answer
answer_at s (refused n p) = Refused n p s
answer_at s (result fs xs) = Done (counts_of fs xs)

abbrev pub answer_to : Trail → Answer
answer_to t = answer_at t.step t.end

-- a mesh that reads zero
pub record Zero (o k : List ℕ) (x : List Float) (o' k' : List ℕ) (x' : List Float) : Type 0 where
  pub offsets : o' ≡ replicate (length o) 0
  pub corners : k' ≡ replicate (length k) 0
  pub coords : x' ≡ replicate (length x) zero_f

-- the output of a list with this trail
pub record Ended (t : Trail) (o k : List ℕ) (x : List Float) (r : Answer) (o' k' : List ℕ) (x' : List Float) : Type 0 where
  pub answer : r ≡ answer_to t
  pub offsets : o' ≡ offsets_after t.end o
  pub corners : k' ≡ corners_after t.end k
  pub coords : x' ≡ coords_after t.end x
