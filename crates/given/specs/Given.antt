-- Steps given as words, four a step: what they stand for, and what a call with them comes to. Definitions only.
use Rattle.std.specs.Prelude.{◌≡◌, Bool, cond, not, ◌&&◌, List, [], ◌∷◌, map, ℕ, ◌+◌, ◌*◌, length, get_or, take, ltb, Float}
use Rattle.slices.specs.First.{first, any}
use Rattle.slices.specs.Lists.{over}
use Rattle.steps.specs.declared.Step.{Step}
use Rattle.words.specs.Words.{word_at}
use Rattle.parts.specs.StepWords.{good_step, step_with}
use Rattle.panel.specs.Format.{run, Reading, refused, holds, filed_of, fillers}
use Rattle.panel.specs.Filed.{Filed}
use Rattle.writer.specs.File.{file_of, given}
use Rattle.writer.specs.Answer.{written_of, bytes_after}
use Rattle.writer.specs.Written.{Written}
use Rattle.writer.specs.Written as written

-- ---- four words: code, flags, ratio, height

-- the step that they stand for
unfoldable pub from_words : List ℕ → Step
from_words w = step_with (get_or w 0 0) (get_or w 1 0) (get_or w 2 0) (get_or w 3 0)

-- whether they are a step's
unfoldable pub is_step : List ℕ → Bool
is_step w = good_step (get_or w 0 0) (get_or w 1 0) (get_or w 2 0) (get_or w 3 0)

-- the words at i are no step's
abbrev pub unknown : List (List ℕ) → ℕ → Bool
unknown ws i = not (is_step (get_or ws i []))

-- 16 steps: the first of those given, and a filler in the places after them
unfoldable pub steps_in : List (List ℕ) → List Step
steps_in ws = over (map from_words (take 16 ws)) fillers

-- at most 16 steps, and one of them unknown
abbrev pub strange : List (List ℕ) → Bool
strange ws = not (ltb 16 (length ws)) && any (unknown ws) (length ws)

-- the place of the first of these: its byte among the steps
abbrev pub strange_at : List (List ℕ) → ℕ
strange_at ws = 16 * first (unknown ws) (length ws)

-- ---- the steps of a panel file as words

abbrev pub four_at : List ℕ → ℕ → List ℕ
four_at s at = word_at s at ∷ word_at s (at + 4) ∷ word_at s (at + 8) ∷ word_at s (at + 12) ∷ []

-- 13: the steps of a file against so many lent places
abbrev pub lent_steps : Reading → ℕ → Reading
lent_steps (refused number place) l = refused number place
lent_steps (holds q) l = cond (ltb l (length q.steps)) (refused 13 3) (holds q)

abbrev pub fours_after : List ℕ → Reading → List (List ℕ) → List (List ℕ)
fours_after s (refused number place) old = old
fours_after s (holds q) old = over (run (four_at s) 16 4 (length q.steps)) old

-- a call on the bytes s that comes to this: its answer, and the lent places before and after it
pub record StepsRead (s : List ℕ) (q : Reading) (l : List (List ℕ)) (r : Filed) (l' : List (List ℕ)) : Type 0 where
  pub answer : r ≡ filed_of q
  pub steps : l' ≡ fours_after s q l

-- ---- a panel file written of steps so given: 17, an unknown step; else as the writer says

unfoldable pub given_written : List (List ℕ) → List ℕ → List ℕ → List Float → ℕ → Written
given_written ws o k x room = cond (strange ws) (written.Refused 17 (strange_at ws)) (written_of (steps_in ws) (length ws) o k x room)

-- a call: its answer, and the lent bytes before and after it
pub record GivenWrote (ws : List (List ℕ)) (o k : List ℕ) (x : List Float) (out : List ℕ) (r : Written) (out' : List ℕ) : Type 0 where
  pub answer : r ≡ given_written ws o k x (length out)
  pub bytes : out' ≡ bytes_after r (file_of (given (steps_in ws) (length ws) o k x)) out
