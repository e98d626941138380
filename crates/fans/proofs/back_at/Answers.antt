use Rattle.std.proofs.Common.{arith, sym, ◌∙◌, eq-eqb, ne_eqb}
use Rattle.slices.specs.First.{begun, onward, lowest_at, lowest_past}
use Rattle.mesh.specs.Corners.{around-none, around-more, turn-lt}
use Rattle.fans.proofs.back_at.Goals as goal

pub loop-j-init : goal.loop-j-init
loop-j-init c = record { searched = begun _ _; turned = around-none _ _ _; within = c.requires.start_in_bounds }

pub returns-then-c-start : goal.returns-then-c-start
returns-then-c-start c =
    let i = c.loop-j.invariant in
    lowest_at i.searched (omega arith) (eq-eqb _ _ (sym (c.turn-c.ensures ∙ rw i.turned (around-more _ _ _ _)) ∙ c.if-c-start.true))

pub loop-j-preserved : goal.loop-j-preserved
loop-j-preserved c =
    let i = c.loop-j.invariant in
    let e = c.turn-c.ensures ∙ rw i.turned (around-more _ _ _ _) in
    record {
      searched = onward i.searched (omega arith) (ne_eqb _ _ (λ q. c.if-c-start.false (e ∙ q)));
      turned = e;
      within = rw c.turn-c.ensures (turn-lt _ _ c.args.faces.shaped c.requires.paired _ i.within);
    }

pub returns : goal.returns
returns c = lowest_past c.loop-j.invariant.searched (omega arith)
