use Rattle.std.proofs.Common.{rules, ap, List, ℕ, [], ◌∷◌, get_or, arith}
use Rattle.slices.specs.Lists.{each}
use Rattle.rule.specs.Output.{put_as}
use Rattle.rule.specs.Triangles.{three_all}
use Rattle.rule.proofs.triangles.put_triangle.Goals as goal

pub returns : goal.returns
unfolding each
returns c =
    put_as (ap (λ (f : List ℕ). f ∷ []) (three_all c.args.t (omega arith)))
    (c.put_ring.ensures (λ j. get_or c.args.t j 0) (λ j v h e. search rules))
