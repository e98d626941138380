use Rattle.std.proofs.Common.{◌≡◌, ◌≤◌, ◌+◌, ◌-◌, [], ◌∷◌, arith}
use Rattle.std.proofs.Math.Nat.{sub_self}
use Rattle.slices.specs.Lists.{each}
use Rattle.rule.specs.Rule.{made, splits}
use Rattle.rule.specs.Numbering.{vertices}
use Rattle.rule.specs.Output.{put_none, put-more, space_each}
use Rattle.rule.specs.Slots.{made_long}
use Rattle.rule.proofs.rings.put_splits.Goals as goal

pub loop-c-init : goal.loop-c-init
unfolding each
loop-c-init c = rw sub_self (put_none _)

pub put_face-requires-clause-space : goal.put_face-requires-clause-space
unfolding splits
put_face-requires-clause-space c =
    let v = vertices c.args.numbering in
    let lo = c.ends-lo.result.0 in
    let value = c.ends-lo.ensures.value in
    space_each (λ i. made v c.args.slots.now (lo + i)) (c.loop-c.c - lo) (c.ends-lo.result.1 - lo) (omega arith) (made_long v c.args.slots.now _) (rw (value.0, value.1) c.requires.room) c.loop-c.invariant

pub loop-c-preserved : goal.loop-c-preserved
loop-c-preserved c =
    let lo = c.ends-lo.result.0 in
    let here : lo + (c.loop-c.c - lo) ≡ c.loop-c.c = omega arith in
    let next : c.loop-c.c + 1 - lo ≡ c.loop-c.c - lo + 1 = omega arith in
    rw next (put-more (λ i. made (vertices c.args.numbering) c.args.slots.now (lo + i) ∷ []) (c.loop-c.c - lo) c.loop-c.invariant (rw here c.put_face.ensures))

pub returns : goal.returns
unfolding splits
returns c =
    let value = c.ends-lo.ensures.value in
    let rising : c.ends-lo.result.0 ≤ c.ends-lo.result.1 = omega (arith, c.ends-lo.ensures.fits.rising) in
    let all : c.loop-c.c ≡ c.ends-lo.result.1 = omega (arith, c.loop-c.auto.c-end rising) in
    rw (← value.0, ← value.1, ← all) c.loop-c.invariant
