use Rattle.std.proofs.Common.{◌∙◌, arith, eq-eqb, ne_eqb}
use Rattle.slices.specs.First.{count_none, count_yes, count_no}
use Rattle.mesh.proofs.faces_at.Goals as goal
use Rattle.mesh.proofs.faces_at.Goals.{then-u-v, else-u-v}

pub loop-u-init : goal.loop-u-init
loop-u-init c = record { few = omega arith; counted = count_none _ }

pub loop-u-preserved : goal.loop-u-preserved
loop-u-preserved c =
    let i = c.loop-u.invariant in
    elim c.if-u-v.branch [
      | then-u-v w ↦ record { few = omega arith; counted = w.m-is ∙ count_yes _ _ _ i.counted (eq-eqb _ _ w.if-u-v.true) }
      | else-u-v w ↦ record { few = omega arith; counted = w.m-is ∙ count_no _ _ _ i.counted (ne_eqb _ _ w.if-u-v.false) }
    ]
