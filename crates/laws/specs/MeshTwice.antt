-- Laws of windows of vertex numbers and of the start of a walk, that no proof of their crate calls. Assumes nothing.
use Rattle.std.specs.Prelude.{ℕ, ◌+◌, ◌<◌, ◌≡◌, refl, Bool, false, List, length}
use Rattle.std.proofs.Common.{zero-le, sym, ◌∙◌, le-ltb}
use Rattle.std.proofs.lemmas.Bool.{lt-leb}
use Rattle.slices.specs.First.{first, is_at, begun}
use Rattle.mesh.specs.Twice.{in_window, Unmarked, Walked}

pub below-window : (low w x : ℕ) → x < low → false ≡ in_window low w x
unfolding in_window
below-window low w x h = rw (lt-leb low x h)

pub walk-begun : (low : ℕ) (l : List ℕ) (marks : List Bool) → Unmarked marks → Walked low (length marks) l 0 marks
walk-begun low l marks u = record { long = refl; passed = begun _ _; marked = λ d h. u d h ∙ sym (le-ltb (first (is_at l (low + d)) 0) 0 zero-le) }
