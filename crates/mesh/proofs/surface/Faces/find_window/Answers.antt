use Rattle.std.proofs.Common.{arith, sym, ◌∙◌}
use Rattle.slices.specs.First.{onward, ended_at, ended}
use Rattle.mesh.specs.Shape.{mono}
use Rattle.mesh.specs.Corners.{in-face}
use Rattle.mesh.specs.Scan.{skips, behind-later, behind-next}
use Rattle.mesh.proofs.surface.Faces.find_window.Goals as goal

pub face_on-f-requires : goal.face_on-f-requires
face_on-f-requires c = record { rising = mono _ _ c.args.self.shaped; behind = behind-later c.args.self.offsets.now _ _ _ c.loop-c.invariant.behind c.starts_at-c.ensures.ahead }

pub window_is-requires : goal.window_is-requires
window_is-requires c = rw c.face_on-f.ensures (in-face _ _ c.args.self.shaped _ (omega (arith, c.requires, c.if-c-stop.true)))

pub returns-then-window_is : goal.returns-then-window_is
returns-then-window_is c = ended_at (skips c.args.self.offsets.now c.args.self.corners.now c.args.e c.loop-c.invariant.searched c.starts_at-c.ensures) (omega (arith, c.if-c-stop.true)) (sym c.window_is.ensures ∙ c.if-window_is.true)

pub loop-c-preserved-then-c-stop : goal.loop-c-preserved-then-c-stop
loop-c-preserved-then-c-stop c = record {
  searched = onward (skips c.args.self.offsets.now c.args.self.corners.now c.args.e c.loop-c.invariant.searched c.starts_at-c.ensures) (omega (arith, c.if-c-stop.true)) (sym c.window_is.ensures ∙ c.if-window_is.false);
  behind = rw c.face_on-f.ensures (behind-next _ _);
}

pub loop-c-preserved : goal.loop-c-preserved
loop-c-preserved c = record {
  searched = skips c.args.self.offsets.now c.args.self.corners.now c.args.e c.loop-c.invariant.searched c.starts_at-c.ensures;
  behind = behind-later c.args.self.offsets.now _ _ _ c.loop-c.invariant.behind c.starts_at-c.ensures.ahead;
}

pub returns : goal.returns
returns c = ended c.loop-c.invariant.searched (omega arith)
