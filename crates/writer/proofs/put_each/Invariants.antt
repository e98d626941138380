use Rattle.std.specs.Prelude.{◌≡◌, ℕ, List, [], ◌∷◌, length, take}
use Rattle.std.proofs.lemmas.List.Edits.{sets}
use Rattle.writer.specs.File.{flat_map, bytes_all}
use Rattle.writer.proofs.put_each.Given as goal

abbrev pub invariant-loop-i : goal.invariant-loop-i
invariant-loop-i g l =
    (h : _ → List ℕ) → ((x : _) → length (h x) ≡ 1) → ((x : _) (n : ℕ) → goal.F-post g l.word x n → n ∷ [] ≡ h x) →
    l.out ≡ sets l.initial.out l.from (bytes_all (flat_map h (take l.i l.items)))
