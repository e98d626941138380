-- The panel file: for every run of bytes the refusal, or what the file holds. Definitions only.
use Rattle.std.specs.Prelude.{Ok, Err}
use Rattle.std.specs.Prelude.{◌≡◌, cond, List, [], ◌∷◌, ◌++◌, ℕ, zero, suc, ◌+◌, ◌-◌, ◌*◌, ◌/◌, length, replicate, ltb, eqb, Float}
use Rattle.std.specs.Float.Ieee.{of_bits}
use Rattle.std.specs.Float.{binary32}
use Rattle.slices.specs.Lists.{over}
use Rattle.rule.specs.Flat.{flat, offsets_of}
use Rattle.steps.specs.declared.Step.{Step}
use Rattle.steps.specs.declared.Step.TheVariants.{Dual}
use Rattle.words.specs.Words.{word_at}
use Rattle.panel.specs.Filed.{Filed}
use Rattle.panel.specs.Filed.{Fine, Refused}
use Rattle.parts.specs.Part.{Part}
use Rattle.parts.specs.Part.{Has, Stops}
use Rattle.parts.specs.StepWords.{step_with}
use Rattle.parts.specs.Parts.{count_at, step_says, whole_says, section, faces}

-- ---- is it a file? Its items are tested in reading order; the first that is refused settles the answer

abbrev pub settle : Part → (ℕ → Filed) → Filed
settle (Ok n) k = k n
settle (Err r) k = Refused r.number r.place

-- where the count of positions, the count of faces and the bytes after the last corner stand
abbrev pub positions_at : ℕ → ℕ
positions_at n = 4 + 16 * n

abbrev pub faces_at : ℕ → ℕ → ℕ
faces_at n v = 8 + 16 * n + 12 * v

abbrev pub end_at : ℕ → ℕ → ℕ → ℕ → ℕ
end_at n v f c = 12 + 16 * n + 12 * v + 4 * f + 4 * c

-- 18: bytes left over
unfoldable pub ending : List ℕ → ℕ → ℕ → ℕ → ℕ → Filed
ending s n v f c = cond (eqb (length s) (end_at n v f c)) (Fine n v f c) (Refused 18 (end_at n v f c))

-- n steps, v positions, f faces of c corners in all
unfoldable pub checked : List ℕ → Filed
checked s =
    settle (section s 0 16 16 (step_says s)) (λ n.
    settle (section s (positions_at n) 400 12 (whole_says s 12)) (λ v.
    settle (count_at s (faces_at n v) 400) (λ f.
    settle (faces s (faces_at n v + 4) 0 f) (λ c.
    ending s n v f c))))

-- ---- what it holds

-- what g reads at n places, `size` bytes apart
unfoldable pub run : {A : Type 0} → (ℕ → A) → ℕ → ℕ → ℕ → List A
run g size at zero = []
run g size at (suc n) = g at ∷ run g size (at + size) n

abbrev pub float_at : List ℕ → ℕ → Float
float_at s at = of_bits binary32 (word_at s at)

unfoldable pub step_at : List ℕ → ℕ → Step
step_at s at = step_with (word_at s at) (word_at s (at + 4)) (word_at s (at + 8)) (word_at s (at + 12))

-- n faces from a byte on
unfoldable pub faces_from : List ℕ → ℕ → ℕ → List (List ℕ)
faces_from s at zero = []
faces_from s at (suc n) = run (word_at s) 4 (at + 4) (word_at s at) ∷ faces_from s (at + 4 + 4 * word_at s at) n

pub record Contents : Type 0 where
  pub steps : List Step
  pub faces : List (List ℕ)
  pub coords : List Float

unfoldable pub contents : List ℕ → ℕ → ℕ → ℕ → Contents
contents s n v f = record { steps = run (step_at s) 16 4 n; faces = faces_from s (faces_at n v + 4) f; coords = run (float_at s) 4 (positions_at n + 4) (3 * v) }

-- ---- what reading comes to

pub data Reading : Type 0 where
  refused : ℕ → ℕ → Reading
  holds : Contents → Reading

abbrev pub reading_as : List ℕ → Filed → Reading
reading_as s (Ok h) = holds (contents s h.steps h.positions h.faces)
reading_as s (Err r) = refused r.number r.place

unfoldable pub reading : List ℕ → Reading
reading s = reading_as s (checked s)

-- 13: what a file holds against so many lent offsets, corners and coordinates
abbrev pub lent : Reading → ℕ → ℕ → ℕ → Reading
lent (refused number place) lo lk lx = refused number place
lent (holds q) lo lk lx =
    cond (ltb lo (length (offsets_of q.faces))) (refused 13 0)
    (cond (ltb lk (length (flat q.faces))) (refused 13 1)
    (cond (ltb lx (length q.coords)) (refused 13 2) (holds q)))

-- the answer: how many steps, positions, faces and corners, or the refusal
abbrev pub filed_of : Reading → Filed
filed_of (refused number place) = Refused number place
filed_of (holds q) = Fine (length q.steps) (length q.coords / 3) (length q.faces) (length (flat q.faces))

abbrev pub offsets_after : Reading → List ℕ → List ℕ
offsets_after (refused number place) old = old
offsets_after (holds q) old = over (offsets_of q.faces) old

abbrev pub corners_after : Reading → List ℕ → List ℕ
corners_after (refused number place) old = old
corners_after (holds q) old = over (flat q.faces) old

abbrev pub coords_after : Reading → List Float → List Float
coords_after (refused number place) old = old
coords_after (holds q) old = over q.coords old

-- a call that comes to this: its answer, and the lent offsets, corners and coordinates before and after it
pub record Read (q : Reading) (o k : List ℕ) (x : List Float) (r : Filed) (o' k' : List ℕ) (x' : List Float) : Type 0 where
  pub answer : r ≡ filed_of q
  pub offsets : o' ≡ offsets_after q o
  pub corners : k' ≡ corners_after q k
  pub coords : x' ≡ coords_after q x

-- the steps of a file, and a filler in the places after them; a refused file has none
abbrev pub steps_of : Reading → List Step
steps_of (refused number place) = []
steps_of (holds q) = q.steps

abbrev pub fillers : List Step
fillers = replicate 16 Dual
