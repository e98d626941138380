use Rattle.std.proofs.Common.{arith, sym, ◌∙◌}
use Rattle.slices.specs.First.{count_none, count_yes, count_no}
use Rattle.mesh.specs.Shape.{at_first, at-then}
use Rattle.mesh.proofs.surface.Faces.ups_below.Goals as goal
use Rattle.mesh.proofs.surface.Faces.ups_below.Goals.{then-up_in, else-up_in}

pub loop-c-init : goal.loop-c-init
loop-c-init c =
    let s = c.args.self.shaped in
    record { few = omega arith; counted = count_none _; own = at_first _ _ s c.requires.full }

pub loop-c-preserved : goal.loop-c-preserved
loop-c-preserved c =
    let s = c.args.self.shaped in
    let i = c.loop-c.invariant in
    let a = at-then _ _ s c.requires.full _ _ _ (i.own (omega (arith, c.requires.stop_in_bounds))) c.face_after-f.ensures in
    elim c.if-up_in.branch [
      | then-up_in w ↦ record { few = omega arith; counted = w.m-is ∙ count_yes _ _ _ i.counted (sym c.up_in.ensures ∙ w.if-up_in.true); own = a }
      | else-up_in w ↦ record { few = omega arith; counted = w.m-is ∙ count_no _ _ _ i.counted (sym c.up_in.ensures ∙ w.if-up_in.false); own = a }
    ]
