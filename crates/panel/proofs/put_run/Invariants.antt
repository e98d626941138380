use Rattle.std.specs.Prelude.{◌≡◌, ℕ, ◌+◌, ◌*◌, ◌≤◌, length}
use Rattle.std.proofs.lemmas.List.Edits.{sets}
use Rattle.panel.specs.Format.{run}
use Rattle.panel.proofs.put_run.Given as goal

abbrev pub invariant-loop-i : goal.invariant-loop-i
invariant-loop-i g l =
    (l.at ≡ l.from + l.size * l.i)
    × ((h : ℕ → _) → ((at : ℕ) (x : _) → l.from ≤ at → at + l.size ≤ l.from + l.size * l.n → goal.F-post g l.read at x → x ≡ h at) →
    l.out ≡ sets l.initial.out l.k (run h l.size l.from l.i))
