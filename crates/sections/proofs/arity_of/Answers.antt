use Rattle.std.proofs.Common.{refl, arith}
use Rattle.rule.specs.Faces.{ends_of}
use Rattle.sections.proofs.arity_of.Goals as goal

pub returns-clause-lower_bound : goal.returns-clause-lower_bound
returns-clause-lower_bound c =
    let ends = ends_of c.args.offsets.now c.args.corners.now c.args.f _ _ c.requires.faced c.requires.f_bound refl refl in
    (omega (arith, ends.rising), omega (arith, ends.few))
