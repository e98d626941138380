-- What a copy of a mesh comes to. Definitions only.
use Rattle.std.specs.Prelude.{List, [], ℕ, Float}
use Rattle.mesh.specs.Mesh.{faces_of}
use Rattle.engine.specs.Result.{Outcome, outcome}
use Rattle.engine.specs.declared.Asks.TheVariants.{Open}

-- numbers 1, 2, 4 to 7 and 13; a mesh that passes 2 and 4 is never refused with 12 or 14
unfoldable pub copy_outcome : List ℕ → List ℕ → List Float → ℕ → ℕ → ℕ → Outcome
copy_outcome o k x lo lc lx = outcome Open o k x [] (faces_of o k) x lo lc lx
