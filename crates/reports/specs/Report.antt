-- The report of a panel file, bytes in, bytes out. Definitions only.
use Rattle.std.specs.Prelude.{◌≡◌, List, ℕ, length, take}
use Rattle.slices.specs.Lists.{over}
use Rattle.rule.specs.Flat.{flat, offsets_of}
use Rattle.steps.specs.Steps.{Room, mesh}
use Rattle.chain.specs.Trail.{Trail}
use Rattle.recipes.specs.Recipe.{recipe_trail}
use Rattle.panel.specs.Format.{Contents, Reading, refused, holds, reading}
use Rattle.lines.specs.Lines.{file_line, lines_of}

-- room for every mesh within document 01's limits
abbrev pub roomy : Room
roomy = record { offsets = 60001; corners = 60000; coords = 180000 }

-- the recipe of a file's steps on its mesh, with a ledger of 16 rows
unfoldable pub trail_of : Contents → Trail
trail_of q = recipe_trail 16 q.steps (length q.steps) (mesh (offsets_of q.faces) (flat q.faces) q.coords) roomy roomy roomy

-- a refused file prints `file`, number, place; else the lines of its recipe
abbrev pub told : Reading → List ℕ
told (refused number place) = file_line number place
told (holds q) = lines_of (trail_of q)

unfoldable pub report_of : List ℕ → List ℕ
report_of s = told (reading s)

-- lent bytes, before and after, whose first r are now this text; those past it are as they were
pub record Holds (s t : List ℕ) (r : ℕ) (t' : List ℕ) : Type 0 where
  pub is : take r t' ≡ s
  pub rest : t' ≡ over s t

-- P holds of the file, whichever it is, whose front is the first n of these bytes; where they are full, the file may go on
abbrev pub ForFile : List ℕ → ℕ → (List ℕ → Type 0) → Type 0
ForFile bytes n P = (file : List ℕ) → take n bytes ≡ take (length bytes) file → P file
