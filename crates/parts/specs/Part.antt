-- What a part of a file comes to: a number that later parts go by, or the end of reading.
use Rattle.std.specs.Prelude.{ℕ, Result, Ok, Err}
use Rattle.mesh.specs.declared.Refusal.{Refusal}

abbrev pub Part : Type 0
Part = Result ℕ Refusal

abbrev pub Has : ℕ → Part
Has n = Ok n

abbrev pub Stops : ℕ → ℕ → Part
Stops number place = Err (record { number = number; place = place })
