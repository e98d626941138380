use Rattle.std.proofs.Common.{refl, ⊎_elim, ◌<◌}
use Rattle.mesh.specs.Mesh.{faces}
use Rattle.rule.specs.Rule.{face_places}
use Rattle.rule.specs.Sizes.{size-corners, size-up, size-down, size-inner, size-outer, size-backward, size-triangles, size-split, size-left}
use Rattle.sections.proofs.size_at.Goals as goal

pub returns-in-Corners : goal.returns-in-Corners
returns-in-Corners c = size-corners _ _ _ _ _ _ _ _ c.requires.ruled c.in-Corners.is

pub returns-in-Ups : goal.returns-in-Ups
returns-in-Ups c = size-up _ _ _ _ _ _ _ _ _ c.requires.ruled c.in-Ups.is c.up_of.ensures c.if-up_of.true

pub returns-in-Ups-2 : goal.returns-in-Ups-2
returns-in-Ups-2 c = size-down _ _ _ _ _ _ _ _ _ c.in-Ups-2.is c.up_of.ensures c.if-up_of.false

pub returns-in-Inner : goal.returns-in-Inner
returns-in-Inner c =
    let long = c.arity_of.ensures.value in
    let few = c.arity_of.ensures.lower_bound.1 in
    ⊎_elim (λ e. size-inner _ _ _ _ _ _ _ _ _ e long few) (λ e. size-backward _ _ _ _ _ _ _ _ _ e long few) c.in-Inner.is

pub returns-in-Vertices : goal.returns-in-Vertices
returns-in-Vertices c =
    size-outer _ _ _ _ _ _ _ _ c.args.i _ c.in-Vertices.is refl c.faces_at.ensures c.requires.faced.few

pub returns-in-Triangles : goal.returns-in-Triangles
unfolding face_places
returns-in-Triangles c =
    let here : c.args.i < faces c.args.offsets.now = rw c.in-Triangles.is at c.requires.i_bound in
    let n = c.arity_of-n.ensures in
    size-triangles _ _ _ _ _ _ _ _ _ _ c.in-Triangles.is n.value n.lower_bound.1 c.requires.faced c.requires.in_reach here

pub returns-in-Picks : goal.returns-in-Picks
returns-in-Picks c =
    let n = c.arity_of-n-in-Picks.ensures in
    size-split _ _ _ _ _ _ _ _ _ _ c.requires.ruled c.in-Picks.is c.picks.ensures c.if-picks.true n.value n.lower_bound.1

pub returns-in-Picks-2 : goal.returns-in-Picks-2
returns-in-Picks-2 c =
    let n = c.arity_of-in-Picks-2.ensures in
    size-left _ _ _ _ _ _ _ _ _ _ c.in-Picks-2.is c.picks.ensures c.if-picks.false n.value n.lower_bound.1
