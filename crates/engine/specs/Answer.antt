-- What a call answers: the counts of the mesh written, or the number, place and step of the refusal.
use Rattle.std.specs.Prelude.{ℕ, Result, Ok, Err}
use Rattle.mesh.specs.declared.Refusal.{Refusal}
use Rattle.engine.specs.declared.Counts.{Counts}
use Rattle.engine.specs.declared.Stop.{Stop}

abbrev pub Answer : Type 0
Answer = Result Counts Stop

abbrev pub Done : Counts → Answer
Done counts = Ok counts

abbrev pub Refused : ℕ → ℕ → ℕ → Answer
Refused number place step = Err (record { number = number; place = place; step = step })

-- outside a list the step is 0
abbrev pub stop_of : Refusal → Stop
stop_of r = record { number = r.number; place = r.place; step = 0 }
