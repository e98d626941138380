-- Laws of the engine's tests that no proof of its crate calls: 8 to 11 by what is asked, and 14 by the first coordinate that is not finite. Assumes nothing.
use Rattle.std.specs.Prelude.{◌≡◌, List, ℕ, ◌/◌, ◌<◌, ◌≤◌, length, Float}
use Rattle.point.specs.Finite.{first_bad}
use Rattle.mesh.specs.Tests.{verdict, verdict-append, and_then, stop, pass, clear, edge_tests, round_tests}
use Rattle.mesh.specs.Verdict.{Verdict, Good, Bad}
use Rattle.engine.specs.Result.{finite_tests, asked}
use Rattle.engine.specs.declared.Asks.{Asks}
use Rattle.engine.specs.declared.Asks.TheVariants.{Open, Closed, Round}

-- 8 to 11 by what is asked
pub asked-open : (a : Asks) (o k : List ℕ) (x : List Float) → a ≡ Open → Good ≡ verdict (asked a o k x)
unfolding asked verdict
asked-open a o k x e = rw e

pub asked-closed : (a : Asks) (o k : List ℕ) (x : List Float) (v : Verdict) → a ≡ Closed → v ≡ verdict (edge_tests o k) → v ≡ verdict (asked a o k x)
unfolding asked
asked-closed a o k x v e h = rw e h

pub asked-round :
    (a : Asks) (o k : List ℕ) (x : List Float) (v : Verdict) → a ≡ Round → v ≡ and_then (verdict (edge_tests o k)) (verdict (round_tests o k (length x / 3))) →
    v ≡ verdict (asked a o k x)
unfolding asked
asked-round a o k x v e h = rw (e, verdict-append (edge_tests o k)) h

-- 14, by the first coordinate that is not finite
pub finite-stop : (xs : List Float) (a : ℕ) → a ≡ first_bad xs → a < length xs → Bad 14 a ≡ verdict (finite_tests xs)
unfolding finite_tests
finite-stop xs a e l = stop _ _ a e l

pub finite-pass : (xs : List Float) (a : ℕ) → a ≡ first_bad xs → length xs ≤ a → Good ≡ verdict (finite_tests xs)
unfolding finite_tests
finite-pass xs a e l = pass _ _ a e l clear
