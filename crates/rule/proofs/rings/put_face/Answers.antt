use Rattle.std.proofs.Common.{rules, ap, List, ℕ, [], ◌∷◌, get_or}
use Rattle.rule.specs.Rule.{old}
use Rattle.rule.specs.Numbering.{vertices}
use Rattle.rule.specs.Output.{put_as}
use Rattle.rule.specs.Slots.{made_each}
use Rattle.rule.specs.declared.Move.TheVariants.{Here}
use Rattle.rule.proofs.rings.put_face.Goals as goal

pub returns : goal.returns
returns c =
    let v = vertices c.args.numbering in
    put_as (ap (λ (f : List ℕ). f ∷ []) (made_each v c.args.slots.now (old Here) c.args.c)) (c.put_ring.ensures (λ j. v (get_or c.args.slots.now j (old Here)) c.args.c) (λ j v h e. search rules))
