-- What a call of the writer comes to. Definitions only.
use Rattle.std.specs.Prelude.{Ok, Err}
use Rattle.std.specs.Prelude.{◌≡◌, cond, List, ℕ, ◌/◌, length, ltb, Float}
use Rattle.slices.specs.First.{first, any}
use Rattle.slices.specs.Lists.{over}
use Rattle.mesh.specs.Mesh.{faces}
use Rattle.mesh.specs.Tests.{wrong_shape}
use Rattle.steps.specs.declared.Step.{Step}
use Rattle.writer.specs.Written.{Written}
use Rattle.writer.specs.Written.{Done, Refused}
use Rattle.writer.specs.File.{file_of, given}

-- 1: offsets or coordinates of wrong shape; 2: over a limit of the file, 3 steps, 0 faces, 1 corners, 2 positions; 13: the bytes do not fit
unfoldable pub written_of : List Step → ℕ → List ℕ → List ℕ → List Float → ℕ → Written
written_of l n o k x room =
    cond (any (wrong_shape o (length k) (length x)) 2) (Refused 1 (first (wrong_shape o (length k) (length x)) 2))
    (cond (ltb 16 n) (Refused 2 3)
    (cond (ltb 400 (faces o)) (Refused 2 0)
    (cond (ltb 1200 (length k)) (Refused 2 1)
    (cond (ltb 400 (length x / 3)) (Refused 2 2)
    (cond (ltb room (length (file_of (given l n o k x)))) (Refused 13 0) (Done (length (file_of (given l n o k x)))))))))

abbrev pub bytes_after : Written → List ℕ → List ℕ → List ℕ
bytes_after (Ok size) new old = over new old
bytes_after (Err r) new old = old

-- a call: its answer, and the lent bytes before and after it
pub record Wrote (l : List Step) (n : ℕ) (o k : List ℕ) (x : List Float) (out : List ℕ) (r : Written) (out' : List ℕ) : Type 0 where
  pub answer : r ≡ written_of l n o k x (length out)
  pub bytes : out' ≡ bytes_after r (file_of (given l n o k x)) out
