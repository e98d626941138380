-- Which faces are picked: each mask that is given allows the face. Definitions only.
use Rattle.std.specs.Prelude.{Bool, true, cond, ◌&&◌, List, ℕ, length, Float}
use Rattle.slices.specs.First.{any, is_at}
use Rattle.faces.specs.Regular.{regular_of}
use Rattle.mesh.specs.Mesh.{arity, run}
use Rattle.picks.specs.declared.Mask.{Mask}

-- an absent list allows every number, a given one those that it has
unfoldable pub allows : Bool → List ℕ → ℕ → Bool
allows given l n = cond given (any (is_at l n) (length l)) true

-- the mask m, with the list of arities a and the list of face numbers b, allows face f
unfoldable pub picked : Mask → List ℕ → List ℕ → List ℕ → List ℕ → List Float → ℕ → Bool
picked m a b o k x f = allows m.arities a (arity o f) && (allows m.numbers b f && cond m.regular (regular_of x (run o k f)) true)
