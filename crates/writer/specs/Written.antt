-- What writing a file comes to: how many bytes, or a refusal.
use Rattle.std.specs.Prelude.{ℕ, Result, Ok, Err}
use Rattle.mesh.specs.declared.Refusal.{Refusal}

abbrev pub Written : Type 0
Written = Result ℕ Refusal

abbrev pub Done : ℕ → Written
Done size = Ok size

abbrev pub Refused : ℕ → ℕ → Written
Refused number place = Err (record { number = number; place = place })
