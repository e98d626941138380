use Rattle.std.specs.Prelude.{ℕ, ◌+◌, ◌*◌, ◌/◌, ◌%◌, ◌^◌}
use Rattle.std.proofs.Common.{ap, ◌∙◌}
use Rattle.root.specs.Sqrt.{sqrt_n, root_of}
use Rattle.root.proofs.Laws.{big-exact}
use Rattle.root.proofs.root_of.Goals as goal

pub returns-clause-value : goal.returns-clause-value
unfolding root_of
returns-clause-value c =
    let t = c.args.t in
    let q = ap (λ (m : ℕ). m * 2 ^ (25 + t % 2) % 2 ^ 64) c.from.ensures ∙ big-exact c.args.m t c.requires.0 c.requires.1 in
    ap (λ (s : ℕ). (t / 2 + 51) * 2 ^ 23 + (s + 1) / 2) (c.isqrt-s.ensures.value ∙ ap sqrt_n q)
