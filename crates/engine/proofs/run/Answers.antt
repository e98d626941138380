use Rattle.std.proofs.Common.{refl, sym, ◌∙◌}
use Rattle.mesh.specs.Tests.{accepted, ends}
use Rattle.engine.specs.Result.{finite_tests}
use Rattle.engine.specs.WorkLaws.{refused_by, run_refused, run_done}
use Rattle.engine.proofs.run.Goals as goal

pub returns-in_err-check_mesh : goal.returns-in_err-check_mesh
returns-in_err-check_mesh c =
    run_refused c.args.p c.args.arities.now c.args.numbers.now c.args.mesh c.args.own c.args.out.now _ _ (refused_by c.in_err-check_mesh.ensures.value _) c.from_residual.ensures.1

pub returns-in_err-check_room : goal.returns-in_err-check_room
returns-in_err-check_room c =
    let s = c.size-size.ensures in
    run_refused c.args.p c.args.arities.now c.args.numbers.now c.args.mesh c.args.own c.args.out.now _ _
    (accepted _ _ _ (sym c.in_ok-check_mesh.ensures.value) (refused_by (rw (s.faces, s.corners, s.coords) at c.in_err-check_room.ensures.value) _)) c.from_residual-in_err-check_room.ensures.1

pub returns-in_err-refuse : goal.returns-in_err-refuse
unfolding finite_tests
returns-in_err-refuse c =
    let s = c.size-size.ensures in
    run_refused c.args.p c.args.arities.now c.args.numbers.now c.args.mesh c.args.own c.args.out.now _ _
    (accepted _ _ _ (sym c.in_ok-check_mesh.ensures.value)
    (accepted _ _ _ (sym (rw (s.faces, s.corners, s.coords) at c.in_ok-check_room.ensures.value)) (c.in_err-refuse.ensures ∙ ends _ _ c.first_bad.ensures.value))) c.from_residual-in_err-refuse.ensures.1

pub returns : goal.returns
unfolding finite_tests
returns c =
    let s = c.size-size.ensures in
    run_done c.args.p c.args.arities.now c.args.numbers.now c.args.mesh c.args.own c.args.out.now _ _
    (accepted _ _ _ (sym c.in_ok-check_mesh.ensures.value)
    (accepted _ _ _ (sym (rw (s.faces, s.corners, s.coords) at c.in_ok-check_room.ensures.value)) (c.in_ok-refuse.ensures ∙ ends _ _ c.first_bad.ensures.value)))
    (rw (s.faces, s.corners, s.coords) at c.counts_of.ensures) c.put_faces.ensures.offsets_after c.put_faces.ensures.corners_after c.put_points.ensures
    (record { offsets = refl; corners = refl; coords = refl })
