use Rattle.std.proofs.Common.{◌≡◌, ◌-◌, [], ◌∷◌, length, arith}
use Rattle.slices.specs.Lists.{each}
use Rattle.rule.specs.Rule.{cut_of, triangle_of, triangles}
use Rattle.rule.specs.Output.{put_none, put-more, space_each}
use Rattle.rule.specs.Triangles.{cut-least, length-triangle}
use Rattle.rule.proofs.triangles.put_triangles.Goals as goal

pub loop-j-init : goal.loop-j-init
unfolding each
loop-j-init c = put_none _

pub triangle_at-requires : goal.triangle_at-requires
triangle_at-requires c =
    (cut-least c.args.shorter c.args.coords.now c.args.face.now _ c.requires.in_bounds c.cut_of-cut.ensures, omega arith)

pub put_triangle-requires : goal.put_triangle-requires
unfolding triangles
put_triangle-requires c =
    let face = c.args.face.now in
    let cut = cut_of c.args.shorter c.args.coords.now face in
    space_each (triangle_of cut face) _ (length face - 2) c.loop-j-test.true (length-triangle cut face _) c.requires.room c.loop-j.invariant

pub loop-j-preserved : goal.loop-j-preserved
loop-j-preserved c =
    let face = c.args.face.now in
    let cut = cut_of c.args.shorter c.args.coords.now face in
    put-more (λ i. triangle_of cut face i ∷ []) _ c.loop-j.invariant (rw (c.triangle_at.ensures, c.cut_of-cut.ensures) at c.put_triangle.ensures)

pub returns : goal.returns
unfolding triangles
returns c =
    let all : c.loop-j.j ≡ length c.args.face.now - 2 = omega arith in
    rw all at c.loop-j.invariant
