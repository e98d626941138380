-- A mesh that the table passes from 1 to 7, but for 3, as far as faces and positions need it. Definitions only.
use Rattle.std.specs.Prelude.{◌≡◌, List, ℕ, ◌*◌, ◌/◌, ◌≤◌, length, Float}
use Rattle.faces.specs.Face.{InReach}
use Rattle.mesh.specs.Edges.{Faced}

pub record Ready (o k : List ℕ) (x : List Float) : Type 0 where
  pub faced : Faced o k
  pub reach : InReach x k
  pub whole : 3 * (length x / 3) ≡ length x
  pub few-positions : length x / 3 ≤ 60000
