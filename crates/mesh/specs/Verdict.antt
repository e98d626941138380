-- What the table says of a mesh: nothing is refused, or the number of a row and the place.
use Rattle.std.specs.Prelude.{ℕ, Result, Ok, Err, Option, Some, None}
use Rattle.mesh.specs.declared.Reason.{Reason}
use Rattle.mesh.specs.declared.Reason.TheVariants.{Shape, Limit, Number, Coordinate, Short, Outside, Twice, Again, Alone, Few, Split, Large, Room, Infinite, Cut, Count, Step, Left}
use Rattle.mesh.specs.declared.Refusal.{Refusal}

abbrev pub Verdict : Type 0
Verdict = Result (Unit {0}) Refusal

abbrev pub Good : Verdict
Good = Ok tt

abbrev pub Bad : ℕ → ℕ → Verdict
Bad number place = Err (record { number = number; place = place })

-- what a row says of the place that was found: nothing where there is none
abbrev pub refused_at : ℕ → Option ℕ → Verdict
refused_at number None = Good
refused_at number (Some place) = Bad number place

-- the number of a row
abbrev pub row_of : Reason → ℕ
row_of Shape = 1
row_of Limit = 2
row_of Number = 3
row_of Coordinate = 4
row_of Short = 5
row_of Outside = 6
row_of Twice = 7
row_of Again = 8
row_of Alone = 9
row_of Few = 10
row_of Split = 11
row_of Large = 12
row_of Room = 13
row_of Infinite = 14
row_of Cut = 15
row_of Count = 16
row_of Step = 17
row_of Left = 18
