use Rattle.std.proofs.Common.{◌≡◌, ◌∙◌, ap, refl, [], ◌∷◌, ℕ, length-set, arith}
use Rattle.slices.specs.Lists.{each}
use Rattle.mesh.specs.Mesh.{around}
use Rattle.mesh.specs.Tests.{lowest}
use Rattle.mesh.specs.Corners.{around-none}
use Rattle.rule.specs.Rule.{outer}
use Rattle.rule.specs.Numbering.{vertices}
use Rattle.rule.specs.Output.{kept_none, put_one}
use Rattle.rule.specs.Faces.{push-listed, length-listed, lowest-in, turned_on}
use Rattle.rule.proofs.rings.put_outer.Goals as goal

pub loop-j-init : goal.loop-j-init
unfolding each
loop-j-init c = record {
  kept = kept_none _;
  filled = refl;
  here = c.find-c.ensures ∙ around-none _ _ _;
  within = λ h. lowest-in c.args.numbering.corners.now c.args.u _ _ c.faces_at-n.ensures c.find-c.ensures h;
}

pub loop-j-preserved : goal.loop-j-preserved
loop-j-preserved c =
    let i = c.loop-j.invariant in
    let q = c.args.numbering in
    let v = vertices q c.args.s in
    let a = lowest q.corners.now c.args.u in
    let t = turned_on q.offsets.now q.corners.now a _ _ _ q.sound (i.within c.loop-j-test.true) i.here c.turn_at-c.ensures in
    record {
      kept = record { same-at = i.kept.same-at; same-offsets = i.kept.same-offsets; same-corners = i.kept.same-corners; long = simp length-set i.kept.long };
      filled = push-listed (λ n. v (around q.offsets.now q.corners.now a n)) _ _ _ _ _ i.filled (c.vertex.ensures ∙ ap v i.here);
      here = t.0;
      within = λ h. t.1;
    }

pub returns : goal.returns
unfolding outer
returns c =
    let i = c.loop-j.invariant in
    let q = c.args.numbering in
    let a = lowest q.corners.now c.args.u in
    let g : ℕ → ℕ = λ j. vertices q c.args.s (around q.offsets.now q.corners.now a j) in
    let all : c.loop-j.j ≡ c.faces_at-n.result = omega arith in
    rw c.faces_at-n.ensures at (put_one (each (λ (j : ℕ). g j ∷ []) c.faces_at-n.result) (length-listed g c.faces_at-n.result) i.kept (rw all at i.filled) c.put_end.ensures)
