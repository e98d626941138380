-- What crosses the boundary to C and Rust: answers as numbers in a row, a number that may be absent as a flag and a value, the masks as flags. Definitions only.
use Rattle.std.specs.Prelude.{Ok, Err}
use Rattle.std.specs.Prelude.{Bool, true, false, List, [], ◌∷◌, ℕ, Float}
use Rattle.mesh.specs.Tests.{number_of, place_of}
use Rattle.mesh.specs.Verdict.{Verdict}
use Rattle.edges.specs.Listing.{Listing}
use Rattle.picks.specs.declared.Mask.{Mask}
use Rattle.operators.specs.Number.{Number}
use Rattle.std.specs.Prelude.{Some, None}
use Rattle.panel.specs.Filed.{Filed}
use Rattle.writer.specs.Written.{Written}
use Rattle.spelling.specs.declared.Words.{Words}
use Rattle.spelling.specs.declared.Filing.{Filing}
use Rattle.spelling.specs.declared.Writing.{Writing}

-- ---- an answer: number, place, step, V, E, F

abbrev pub spelled : Words → List ℕ
spelled w = w.number ∷ w.place ∷ w.step ∷ w.v ∷ w.e ∷ w.f ∷ []

-- a check answers with a number and a place
abbrev pub verdict_words : Verdict → List ℕ
verdict_words v = number_of v ∷ place_of v ∷ 0 ∷ 0 ∷ 0 ∷ 0 ∷ []

-- a list of edges answers with their number, at E
abbrev pub listing_words : Listing → List ℕ
listing_words (Ok n) = 0 ∷ 0 ∷ 0 ∷ 0 ∷ n ∷ 0 ∷ []
listing_words (Err r) = r.number ∷ r.place ∷ 0 ∷ 0 ∷ 0 ∷ 0 ∷ []

-- ---- a panel file that is read: number, place, steps, positions, faces, corners

abbrev pub filing : Filing → List ℕ
filing f = f.number ∷ f.place ∷ f.steps ∷ f.positions ∷ f.faces ∷ f.corners ∷ []

abbrev pub filed_words : Filed → List ℕ
filed_words (Ok h) = 0 ∷ 0 ∷ h.steps ∷ h.positions ∷ h.faces ∷ h.corners ∷ []
filed_words (Err r) = r.number ∷ r.place ∷ 0 ∷ 0 ∷ 0 ∷ 0 ∷ []

-- ---- one that is written: number, place, bytes

abbrev pub writing : Writing → List ℕ
writing w = w.number ∷ w.place ∷ w.bytes ∷ []

abbrev pub written_words : Written → List ℕ
written_words (Ok size) = 0 ∷ 0 ∷ size ∷ []
written_words (Err r) = r.number ∷ r.place ∷ 0 ∷ []

-- ---- what is handed in

-- a flag and a value
abbrev pub optional : Bool → Float → Number
optional true x = Some x
optional false x = None

abbrev pub masked : Bool → Bool → Bool → Mask
masked a n r = record { arities = a; numbers = n; regular = r }
