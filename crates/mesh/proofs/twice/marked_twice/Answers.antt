use Rattle.std.proofs.Common.{arith, sym, refl, ◌∙◌}
use Rattle.mesh.specs.Twice.{walk-ended, walk-over, walk-stopped, walk-marks, window-from}
use Rattle.mesh.proofs.twice.marked_twice.Goals as goal
use Rattle.mesh.proofs.twice.marked_twice.Goals.{then-in_window+else-marks-v, else-in_window}

pub overflow_sub-v : goal.overflow_sub-v
overflow_sub-v c = (window-from _ _ _ (sym c.if-in_window.ensures)).0

pub bounds-marks-v : goal.bounds-marks-v
bounds-marks-v c = (window-from _ _ _ (sym c.if-in_window.ensures)).1

pub returns-then-marks-v : goal.returns-then-marks-v
returns-then-marks-v c = walk-stopped c.loop-v.invariant (omega arith) _ refl c.if-in_window.ensures c.if-marks-v.true

pub overflow_sub-marks : goal.overflow_sub-marks
overflow_sub-marks c = (window-from _ _ _ (sym c.if-in_window.ensures)).0

pub bounds-marks-v-then-in_window : goal.bounds-marks-v-then-in_window
bounds-marks-v-then-in_window c = (window-from _ _ _ (sym c.if-in_window.ensures)).1

pub loop-v-preserved : goal.loop-v-preserved
loop-v-preserved c =
    let k = c.loop-v.invariant in
    let o = c.in_window.ensures in
    elim c.if-in_window.branch [
      | then-in_window+else-marks-v w ↦ rw w.marks-is (walk-marks k (omega arith) _ refl (sym w.if-in_window.true ∙ o) w.if-marks-v.false)
      | else-in_window w ↦ rw w.marks-is (walk-over k (omega arith) _ refl (sym w.if-in_window.false ∙ o))
    ]

pub returns : goal.returns
returns c = walk-ended c.loop-v.invariant (omega arith)
