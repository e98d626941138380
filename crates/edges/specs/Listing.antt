-- How a call that lists the edges ends: how many there are, or a refusal.
use Rattle.std.specs.Prelude.{ℕ, Result, Ok, Err}
use Rattle.mesh.specs.declared.Refusal.{Refusal}

abbrev pub Listing : Type 0
Listing = Result ℕ Refusal

abbrev pub Listed : ℕ → Listing
Listed edges = Ok edges

abbrev pub Refused : ℕ → ℕ → Listing
Refused number place = Err (record { number = number; place = place })
