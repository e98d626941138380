-- The limits of a header's counts.
use Rattle.std.specs.Prelude.{◌≤◌}
use Rattle.cases.specs.declared.header.Sizes.{Sizes}
use Rattle.cases.specs.declared.header.Header.{Header}

-- the lists of a mesh fit the program's memory
pub record Fits (s : Sizes) : Type 0 where
  pub offsets : s.offsets ≤ 65536
  pub corners : s.corners ≤ 65536
  pub coords : s.coords ≤ 196608

-- each list, and each room, fits the program's memory
pub record Within (h : Header) : Type 0 where
  pub sizes : Fits h.sizes
  pub arities : h.arities ≤ 65536
  pub faces : h.faces ≤ 65536
  pub rooms : Fits h.rooms
