-- The parts of a panel file: what each comes to, in reading order. Definitions only.
use Rattle.std.specs.Prelude.{Ok, Err}
use Rattle.std.specs.Prelude.{Bool, cond, List, ℕ, zero, suc, ◌+◌, ◌-◌, ◌*◌, leb}
use Rattle.words.specs.Words.{word_at, whole_at}
use Rattle.parts.specs.Part.{Part}
use Rattle.parts.specs.Part.{Has, Stops}
use Rattle.parts.specs.StepWords.{good_step}

-- a part comes to a number that later parts go by, or stops the reading with a number of the table and a byte's place
abbrev pub and_then : Part → (ℕ → Part) → Part
and_then (Ok n) k = k n
and_then (Err r) k = Stops r.number r.place

-- a count or an arity: 15 where it is not whole, 16 where it is over a limit
unfoldable pub count_at : List ℕ → ℕ → ℕ → Part
count_at s at most = cond (whole_at s at 4) (cond (leb (word_at s at) most) (Has (word_at s at)) (Stops 16 at)) (Stops 15 at)

-- a step: 15 where it is not whole, 17 where its words are no step's
unfoldable pub step_says : List ℕ → ℕ → Part
step_says s at = cond (whole_at s at 16) (cond (good_step (word_at s at) (word_at s (at + 4)) (word_at s (at + 8)) (word_at s (at + 12))) (Has 0) (Stops 17 at)) (Stops 15 at)

-- a position or a corner: 15 where it is not whole
unfoldable pub whole_says : List ℕ → ℕ → ℕ → Part
whole_says s size at = cond (whole_at s at size) (Has 0) (Stops 15 at)

-- n items of one size, one after the other from a byte on
unfoldable pub items : (ℕ → Part) → ℕ → ℕ → ℕ → Part
items say size at zero = Has 0
items say size at (suc n) = and_then (say at) (λ _. items say size (at + size) n)

-- a count and its items
unfoldable pub section : List ℕ → ℕ → ℕ → ℕ → (ℕ → Part) → Part
section s at most size say = and_then (count_at s at most) (λ n. and_then (items say size (at + 4) n) (λ _. Has n))

-- n faces, where those before have `sum` corners: each is an arity and its corners, and at most 1,200 corners come in all
unfoldable pub faces : List ℕ → ℕ → ℕ → ℕ → Part
faces s at sum zero = Has sum
faces s at sum (suc n) = and_then (section s at (1200 - sum) 4 (whole_says s 4)) (λ a. faces s (at + 4 + 4 * a) (sum + a) n)
