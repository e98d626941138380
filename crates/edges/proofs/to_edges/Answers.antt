use Rattle.std.proofs.Common.{sym, arith}
use Rattle.mesh.specs.Edges.{sound-faced, tests-sound, edges_few}
use Rattle.edges.specs.EdgeList.{listing_is, length_listed, over_listed}
use Rattle.edges.proofs.to_edges.Goals as goal

pub invariant_of-faces : goal.invariant_of-faces
invariant_of-faces c = record { shaped = (tests-sound _ _ _ (sym c.in_ok-check.ensures)).0.shaped }

pub ups_below-n-requires-clause-full : goal.ups_below-n-requires-clause-full
ups_below-n-requires-clause-full c = (tests-sound _ _ _ (sym c.in_ok-check.ensures)).0.full

pub put_edges-requires-clause-full : goal.put_edges-requires-clause-full
put_edges-requires-clause-full c = (tests-sound _ _ _ (sym c.in_ok-check.ensures)).0.full

pub overflow_cast-result : goal.overflow_cast-result
overflow_cast-result c =
    let s = (tests-sound _ _ _ (sym c.in_ok-check.ensures)).0 in
    omega (arith, c.ups_below-n.ensures, edges_few _ _ (sound-faced s))

pub returns-clause-value : goal.returns-clause-value
returns-clause-value c =
    let l = length_listed _ _ _ c.in_ok-check.ensures in
    grind (arith, listing_is)

pub returns-clause-out_after : goal.returns-clause-out_after
returns-clause-out_after c =
    let l = over_listed _ _ _ c.in_ok-check.ensures c.args.out.now (omega arith) in
    grind (arith, listing_is)
