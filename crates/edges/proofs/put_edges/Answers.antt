use Rattle.std.proofs.Common.{refl, arith}
use Rattle.slices.specs.First.{count_none}
use Rattle.slices.specs.Lists.{each}
use Rattle.mesh.specs.Shape.{at_first, at-then}
use Rattle.edges.specs.EdgeList.{rise-room, rise-more}
use Rattle.edges.proofs.put_edges.Goals as goal

pub loop-c-init : goal.loop-c-init
unfolding each
loop-c-init c =
    record { counted = count_none _; stored = refl; own = at_first _ _ c.args.faces.shaped c.requires.full }

pub put_edge-m-requires-clause-c_in_bounds : goal.put_edge-m-requires-clause-c_in_bounds
put_edge-m-requires-clause-c_in_bounds c = rise-room _ _ _ _ _ (omega arith) c.loop-c.invariant.counted (omega (arith, c.requires.corners_in_bounds))

pub loop-c-preserved : goal.loop-c-preserved
loop-c-preserved c =
    let i = c.loop-c.invariant in
    let more = rise-more _ _ _ _ _ _ _ _ i.counted i.stored c.put_edge-m.ensures.value c.put_edge-m.ensures.out_after in
    record {
      counted = more.0;
      stored = more.1;
      own = at-then _ _ c.args.faces.shaped c.requires.full _ _ _ (i.own (omega arith)) c.face_after-f.ensures;
    }
