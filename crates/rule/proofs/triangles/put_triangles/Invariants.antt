use Rattle.std.proofs.Common.{[], ◌∷◌}
use Rattle.slices.specs.Lists.{each}
use Rattle.rule.specs.Rule.{cut_of, triangle_of}
use Rattle.rule.specs.Output.{Put}
use Rattle.rule.proofs.triangles.put_triangles.Given as goal

abbrev pub invariant-loop-j : goal.invariant-loop-j
invariant-loop-j l =
    Put l.initial.out (each (λ i. triangle_of (cut_of l.shorter l.coords l.face) l.face i ∷ []) l.j) l.out
