-- What reading a file comes to: how much it holds, or a refusal.
use Rattle.std.specs.Prelude.{ℕ, Result, Ok, Err}
use Rattle.mesh.specs.declared.Refusal.{Refusal}
use Rattle.panel.specs.declared.Held.{Held}

abbrev pub Filed : Type 0
Filed = Result Held Refusal

abbrev pub Fine : ℕ → ℕ → ℕ → ℕ → Filed
Fine steps positions faces corners = Ok (record { steps = steps; positions = positions; faces = faces; corners = corners })

abbrev pub Refused : ℕ → ℕ → Filed
Refused number place = Err (record { number = number; place = place })
