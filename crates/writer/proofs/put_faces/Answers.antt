use mathlib.Core.Path.{◌≡◌, refl, ◌∙◌}
use Prim.Native.Nat.{◌-◌}
use native.Mathlib.Omega.{arith}
use Rattle.mesh.specs.Mesh.{faces}
use Rattle.writer.specs.Puts.{span, face-room, put-faces-more, put-faces-none}
use Rattle.writer.proofs.put_faces.Goals as goal

pub loop-f-init : goal.loop-f-init
loop-f-init c = put-faces-none c.args.offsets.now c.args.corners.now _ c.args.from

pub offset_bounds-corners-a : goal.offset_bounds-corners-a
offset_bounds-corners-a c = let sp = span c.args.offsets.now _ c.loop-f.f _ _ c.requires.shaped (omega arith) refl refl in omega (arith, sp.0, sp.1, c.requires.corners_in_bounds.0, c.requires.corners_in_bounds.1)

pub slice_bounds-put_face-count : goal.slice_bounds-put_face-count
slice_bounds-put_face-count c = let sp = span c.args.offsets.now _ c.loop-f.f _ _ c.requires.shaped (omega arith) refl refl in sp.0

pub slice_bounds-put_face-start : goal.slice_bounds-put_face-start
slice_bounds-put_face-start c = let sp = span c.args.offsets.now _ c.loop-f.f _ _ c.requires.shaped (omega arith) refl refl in sp.0

pub slice_bounds-put_face-end : goal.slice_bounds-put_face-end
slice_bounds-put_face-end c = let sp = span c.args.offsets.now _ c.loop-f.f _ _ c.requires.shaped (omega arith) refl refl in sp.1

pub overflow_mul-f : goal.overflow_mul-f
overflow_mul-f c = let sp = span c.args.offsets.now _ c.loop-f.f _ _ c.requires.shaped (omega arith) refl refl in omega (arith, sp.0, sp.1, c.requires.corners_in_bounds.0, c.requires.corners_in_bounds.1)

pub overflow_add-from : goal.overflow_add-from
overflow_add-from c = let sp = span c.args.offsets.now _ c.loop-f.f _ _ c.requires.shaped (omega arith) refl refl in omega (arith, sp.0, sp.1, c.requires.corners_in_bounds.0, c.requires.corners_in_bounds.1)

pub put_face-requires : goal.put_face-requires
put_face-requires c = let sp = span c.args.offsets.now _ c.loop-f.f _ _ c.requires.shaped (omega arith) refl refl in face-room c.args.offsets.now c.args.corners.now c.loop-f.f _ _ c.args.from _ (omega arith) sp.0 sp.1 (omega (arith, c.requires.corners_in_bounds.0, c.loop-f.auto.out)) c.requires.corners_in_bounds.1

pub loop-f-preserved : goal.loop-f-preserved
loop-f-preserved c = put-faces-more c.args.offsets.now c.args.corners.now c.requires.shaped _ _ _ _ _ c.loop-f.f _ _ (omega arith) refl refl c.loop-f.invariant refl c.put_face.ensures

pub returns : goal.returns
returns c = let e : c.loop-f.f ≡ faces c.args.offsets.now = omega (arith, c.requires.shaped.some) in rw e at c.loop-f.invariant
