use Rattle.std.proofs.Common.{◌≡◌, refl, [], ◌∷◌, ℕ, arith, length-set, ap, ◌∙◌}
use Rattle.std.proofs.lemmas.List.Edits.{sets}
use Rattle.slices.specs.Lists.{each}
use Rattle.rule.specs.Output.{put_one}
use Rattle.rule.specs.Faces.{push-listed, length-listed}
use Rattle.rule.proofs.output.Output.put_ring.Goals as goal

pub loop-j-init : goal.loop-j-init
unfolding each
loop-j-init g c = record { kept = record { same-at = refl; same-offsets = refl; same-corners = refl; long = refl }; filled = λ f h. refl }

pub loop-j-preserved : goal.loop-j-preserved
loop-j-preserved g c =
    let i = c.loop-j.invariant in
    record {
      kept = record { same-at = i.kept.same-at; same-offsets = i.kept.same-offsets; same-corners = i.kept.same-corners; long = simp length-set i.kept.long };
      filled = λ f h. push-listed f _ _ _ _ _ (i.filled f h) (h c.loop-j.j _ (omega arith) c.vertex.ensures);
    }

pub returns : goal.returns
returns g c =
    let i = c.loop-j.invariant in
    λ f h. put_one (each (λ (j : ℕ). f j ∷ []) c.args.n) (length-listed f c.args.n) i.kept (let e : c.loop-j.j ≡ c.args.n = omega arith in i.filled f h ∙ ap (λ (j : ℕ). sets c.args.self.now.corners.now c.args.self.now.at.cors (each (λ (t : ℕ). f t ∷ []) j)) e) c.put_end.ensures
