use Rattle.std.proofs.Common.{◌≡◌, ℕ, [], ◌∷◌, ◌<◌}
use Rattle.std.proofs.lemmas.List.Edits.{sets}
use Rattle.slices.specs.Lists.{each}
use Rattle.rule.specs.Output.{Kept}
use Rattle.rule.proofs.output.Output.put_ring.Given as goal

abbrev pub invariant-loop-j : goal.invariant-loop-j
invariant-loop-j g l = record {
  kept : Kept l.initial.self l.self;
  filled : (f : ℕ → ℕ) → ((j v : ℕ) → j < l.n → goal.F-post g l.vertex j v → v ≡ f j) → l.self.corners.now ≡ sets l.initial.self.corners.now l.k (each (λ i. f i ∷ []) l.j);
}
