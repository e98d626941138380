-- A number that may be absent.
use Rattle.std.specs.Prelude.{Option, Float}

abbrev pub Number : Type 0
Number = Option Float
