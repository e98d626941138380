use Rattle.std.proofs.Common.{arith}
use Rattle.rule.specs.Sections.{places-few}
use Rattle.rule.specs.Sizes.{counted_same, counted_none, counted-more, counted-done}
use Rattle.sections.specs.Lent.{faces_on}
use Rattle.sections.proofs.section_size.Goals as goal

pub loop-i-init : goal.loop-i-init
loop-i-init c = counted_none (faces_on c.args.s c.args.masks c.args.mesh)

pub add-t-requires : goal.add-t-requires
add-t-requires c =
    let m = c.args.mesh in
    let few = places-few c.args.s.shape m.offsets.now m.corners.now m.coords.now m.ready.faced m.ready.few-positions in
    (omega arith, omega arith)

pub loop-i-preserved : goal.loop-i-preserved
loop-i-preserved c =
    counted_same c.add-t.ensures (counted-more (faces_on c.args.s c.args.masks c.args.mesh) _ _ _ c.loop-i.invariant c.size_at.ensures)

pub returns : goal.returns
returns c =
    let m = c.args.mesh in
    let k = c.args.masks in
    counted-done c.args.s k.mask k.arities.now k.numbers.now m.offsets.now m.corners.now m.coords.now c.loop-i.i _ _ c.places-i-end.ensures (omega arith) m.ready.faced m.ready.few-positions c.loop-i.invariant
