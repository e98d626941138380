-- Laws of the limits of the further words of a header, that no proof of its crate calls. Assumes nothing.
use Rattle.std.specs.Prelude.{◌≤◌}
use Rattle.runs.specs.declared.more.More.{More}
use Rattle.runs.specs.More.{Fits}

-- each slice of the two lent work meshes fits the program's memory
module _ {m : More} (f : Fits m) where
  pub ao : m.a.offsets ≤ 65536
  ao = f.a.offsets

  pub ac : m.a.corners ≤ 65536
  ac = f.a.corners

  pub ap : m.a.coords ≤ 196608
  ap = f.a.coords

  pub bo : m.b.offsets ≤ 65536
  bo = f.b.offsets

  pub bc : m.b.corners ≤ 65536
  bc = f.b.corners

  pub bp : m.b.coords ≤ 196608
  bp = f.b.coords
