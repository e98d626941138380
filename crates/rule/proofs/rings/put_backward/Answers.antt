use Rattle.std.proofs.Common.{◌≡◌, ◌∙◌, rules, length, ◌-◌, get_or}
use Rattle.mesh.specs.Mesh.{arity, end, run}
use Rattle.picks.specs.Runs.{run_long}
use Rattle.rule.specs.Rule.{backward}
use Rattle.rule.specs.Faces.{run_from_end}
use Rattle.rule.proofs.rings.put_backward.Goals as goal

pub returns : goal.returns
unfolding backward
returns c =
    let o = c.args.offsets.now in
    let k = c.args.corners.now in
    let f = c.args.f in
    let long : length (run o k f) ≡ arity o f = run_long o k f c.requires.faced c.requires.f_bound in
    rw long at
    (c.put_ring.ensures (λ j. get_or k (end o f - 1 - j) 0)
    (λ j v h e. let q : v ≡ get_or (run o k f) (length (run o k f) - 1 - j) 0 = search rules in
    q ∙ rw long (run_from_end o k f j (rw long at h))))
