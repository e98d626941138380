use Rattle.std.proofs.Common.{refl}
use Rattle.mesh.specs.Edges.{sound-faced}
use Rattle.rule.specs.Faces.{ends_of}
use Rattle.rule.proofs.numbering.Numbering.ends.Goals as goal

pub returns-clause-fits : goal.returns-clause-fits
returns-clause-fits c =
    ends_of c.args.self.offsets.now c.args.self.corners.now c.args.f _ _ (sound-faced c.args.self.sound) c.requires refl refl
