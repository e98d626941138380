-- Laws of a step of a trail that is done: the counts it has and the mesh it leaves, that no proof of their crate calls. Assumes nothing.
use Rattle.std.specs.Prelude.{◌≡◌, refl, List, ℕ, ◌+◌, ◌<◌, ◌≤◌, length, get_or, take, drop, Float}
use Rattle.std.proofs.Common.{sym, ◌∙◌, ap, arith, length-append, length-drop, take_at}
use Rattle.slices.specs.Lists.{over}
use Rattle.rule.specs.Flat.{flat, offsets_of, length-offsets}
use Rattle.engine.specs.Result.{Outcome, refused, result, counts_of, Came}
use Rattle.engine.specs.declared.Counts.{Counts}
use Rattle.engine.specs.Answer.{Answer, Done}
use Rattle.steps.specs.Steps.{Mesh, Room, Masks, mesh, room, step_on}
use Rattle.steps.specs.StepLaws.{Written, step-written}
use Rattle.steps.specs.declared.Step.{Step}
use Rattle.chain.specs.Chained.{extent_of, front, Ready}
use Rattle.chain.specs.ChainLaws.{last-offset, Left}
use Rattle.chain.specs.declared.Extent.{Extent}

-- ---- how much of a work mesh is the mesh that lies at its front

-- the same mesh, by the extent of its counts
pub front-extent : (c : Counts) (w : Mesh) (e : Extent) → e ≡ extent_of c w.offsets → front c w ≡ mesh (take e.offsets w.offsets) (take e.corners w.corners) (take e.coords w.coords)
front-extent c w e h = sym (ap (λ (e : Extent). mesh (take e.offsets w.offsets) (take e.corners w.corners) (take e.coords w.coords)) h)

-- it fits what a step left
pub left-extent : {fs : List (List ℕ)} {xs : List Float} {b b' : Mesh} (c : Counts) (e : Extent) → c ≡ counts_of fs xs → e ≡ extent_of c b'.offsets → Left fs xs b b' →
    (e.offsets ≤ length b'.offsets) × ((e.corners ≤ length b'.corners) × (e.coords ≤ length b'.coords))
left-extent c e p q l = rw (q, p) (omega (arith, l.within.offsets), (l.within.corners, l.within.coords))

-- k of n steps are done, where so many are left after the next one
pub more : {left k : ℕ} {c : Counts} {w : Mesh} (n : ℕ) → n ≡ k + 1 + left → Ready left k c w → k < n
more n e r = omega arith

pub more-most : {left k : ℕ} {c : Counts} {w : Mesh} (n : ℕ) → n ≡ k + 1 + left → Ready left k c w → n ≤ 16
more-most n e r = omega (arith, r.most)

-- ---- what lies at the front of a list that was written over

module _ {A : Type 0} where
  -- what is read back
  back : (new old l : List A) (n : ℕ) → n ≡ length new → l ≡ over new old → take n l ≡ new
  back new old l n e w = ap (take n) w ∙ take_at new (drop (length new) old) n (sym e)

  long : (new old l : List A) → length new ≤ length old → l ≡ over new old → length l ≡ length old
  long new old l h w =
      let a = length-append new (drop (length new) old) in
      let d = length-drop (length new) old in
      ap length w ∙ omega arith

-- ---- a step that is done

mesh-is : {o o' k k' : List ℕ} {x x' : List Float} → o ≡ o' → k ≡ k' → x ≡ x' → mesh o k x ≡ mesh o' k' x'
mesh-is p q r = λ i. mesh (p i) (q i) (r i)

room-is : {a a' b b' c c' : ℕ} → a ≡ a' → b ≡ b' → c ≡ c' → ◌≡◌ {A = Room} (record { offsets = a; corners = b; coords = c }) (record { offsets = a'; corners = b'; coords = c' })
room-is p q r = λ i. record { offsets = p i; corners = q i; coords = r i }

left_by :
    (fs : List (List ℕ)) (xs : List Float) (b b' : Mesh) → Written fs xs (length b.offsets) (length b.corners) (length b.coords) →
    b'.offsets ≡ over (offsets_of fs) b.offsets → b'.corners ≡ over (flat fs) b.corners → b'.coords ≡ over xs b.coords →
    Left fs xs b b'
left_by fs xs b b' w p q r =
    let n = length-offsets fs in
    let f = w.room in
    let u : get_or b'.offsets (length fs) 0 ≡ length (flat fs) = ap (λ (l : List ℕ). get_or l (length fs) 0) p ∙ last-offset fs b.offsets in
    let lo : length b'.offsets ≡ length b.offsets = long (offsets_of fs) b.offsets b'.offsets (omega (arith, f.faces-fit)) p in
    let lk : length b'.corners ≡ length b.corners = long (flat fs) b.corners b'.corners f.corners-fit q in
    let lx : length b'.coords ≡ length b.coords = long xs b.coords b'.coords f.coords-fit r in
    record {
      is = mesh-is (back (offsets_of fs) b.offsets b'.offsets _ (sym n) p) (back (flat fs) b.corners b'.corners _ u q) (back xs b.coords b'.coords _ w.whole r);
      room = room-is lo lk lx;
      within = record {
        offsets = omega (arith, f.faces-fit);
        corners = omega (arith, f.corners-fit);
        coords = omega (arith, f.coords-fit, w.whole);
      };
    }

-- one that is done, with these counts, and what it left in the lent slices
pub record Next (q : Outcome) (c : Counts) (o k : List ℕ) (x : List Float) (o' k' : List ℕ) (x' : List Float) : Type 0 where
  pub fs : List (List ℕ)
  pub xs : List Float
  pub outcome : q ≡ result fs xs
  pub counts : c ≡ counts_of fs xs
  pub left : Left fs xs (mesh o k x) (mesh o' k' x')

same-counts : (c d : Counts) → Done c ≡ Done d → c ≡ d
same-counts c d e = cc

pub went :
    (m : Masks) (s : Step) (w : Mesh) (o k : List ℕ) (x : List Float) {made : Answer} {o' k' : List ℕ} {x' : List Float} (c : Counts) →
    Came (step_on m s w (room o k x)) o k x made o' k' x' → made ≡ Done c → Next (step_on m s w (room o k x)) c o k x o' k' x'
went m s w o k x {made} {o'} {k'} {x'} c h d = go (step_on m s w (room o k x)) refl h
  where
    go : (q : Outcome) → step_on m s w (room o k x) ≡ q → Came q o k x made o' k' x' → Next q c o k x o' k' x'
    go (refused n p) e h = let g = h.answer in absurd (let z : ◌≡◌ {A = ℕ} 0 1 = cc in omega arith)
    go (result fs xs) e h =
        let i : c ≡ counts_of fs xs = same-counts c (counts_of fs xs) (sym d ∙ h.answer) in
        let l = left_by fs xs (mesh o k x) (mesh o' k' x') (step-written s m.given m.arities m.numbers w.offsets w.corners w.coords (length o) (length k) (length x) fs xs e) h.offsets h.corners h.coords in
        record { fs = fs; xs = xs; outcome = refl; counts = i; left = l }
