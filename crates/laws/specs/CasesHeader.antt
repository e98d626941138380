-- Laws of the limits of a header's rooms, that no proof of its crate calls. Assumes nothing.
use Rattle.std.specs.Prelude.{◌≤◌}
use Rattle.cases.specs.declared.header.Header.{Header}
use Rattle.cases.specs.Header.{Within}

-- each room fits the program's memory
module _ {h : Header} (w : Within h) where
  pub out-offsets : h.rooms.offsets ≤ 65536
  out-offsets = w.rooms.offsets

  pub out-corners : h.rooms.corners ≤ 65536
  out-corners = w.rooms.corners

  pub out-coords : h.rooms.coords ≤ 196608
  out-coords = w.rooms.coords
