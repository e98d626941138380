-- Laws of trails in the shape of the code's needs: the last step, a refused one, one that goes on. Assumes nothing.
use Rattle.std.specs.Prelude.{◌≡◌, refl, List, [], ◌∷◌, ◌++◌, ℕ, suc, ◌+◌, ◌<◌, ◌≤◌, length, get_or, set, take, drop, Float, Ok, Err, IfOk}
use Rattle.std.proofs.Common.{sym, ◌∙◌, ap, ap₂, subst, add-zero, add-one, arith, length-append, length-drop, take_at}
use Rattle.std.proofs.lemmas.List.Edits.{sets}
use Rattle.slices.specs.Lists.{over}
use Rattle.rule.specs.Flat.{flat, ends, offsets_of, length-offsets}
use Rattle.engine.specs.Result.{Outcome, refused, result, counts_of, Came}
use Rattle.engine.specs.declared.Counts.{Counts}
use Rattle.engine.specs.declared.Stop.{Stop}
use Rattle.engine.specs.Answer.{Answer}
use Rattle.steps.specs.Steps.{Mesh, Room, Masks, mesh, room, step_on}
use Rattle.steps.specs.StepLaws.{Written, step-written}
use Rattle.steps.specs.declared.Step.{Step}
use Rattle.chain.specs.Trail.{Trail, row_of, lastly, onward, trail}
use Rattle.chain.specs.Chained.{extent_of, front, Spans, Within, Ready, from_answer, Chained}
use Rattle.chain.specs.declared.Row.{Row}
use Rattle.chain.specs.declared.Ran.{Ran}
use Rattle.chain.specs.declared.Extent.{Extent}

-- ---- what lies at the front of a list that was written over

module _ {A : Type 0} where
  -- what is read back
  back : (new old l : List A) (n : ℕ) → n ≡ length new → l ≡ over new old → take n l ≡ new
  back new old l n e w = ap (take n) w ∙ take_at new (drop (length new) old) n (sym e)

  long : (new old l : List A) → length new ≤ length old → l ≡ over new old → length l ≡ length old
  long new old l h w =
      let a = length-append new (drop (length new) old) in
      let d = length-drop (length new) old in
      ap length w ∙ omega arith

-- the last offset is the number of corners
last_end : (k : ℕ) (fs : List (List ℕ)) (rest : List ℕ) → get_or (k ∷ (ends k fs ++ rest)) (length fs) 0 ≡ k + length (flat fs)
unfolding ends flat
last_end k [] rest = sym (add-zero k)
last_end k (f ∷ fs) rest = let e = last_end (k + length f) fs rest in let a = length-append f (flat fs) in e ∙ omega arith

pub last-offset : (fs : List (List ℕ)) (old : List ℕ) → get_or (over (offsets_of fs) old) (length fs) 0 ≡ length (flat fs)
unfolding offsets_of
last-offset fs old = last_end 0 fs (drop (length (offsets_of fs)) old) ∙ omega arith

-- ---- how much of a work mesh a mesh with some counts is

pub spans : {c : Counts} {e : Extent} {w : Mesh} → e ≡ extent_of c w.offsets → Within c w → Spans e w
spans e h = rw e (record { offsets = omega (arith, h.offsets); corners = h.corners; coords = h.coords })

-- ---- a step that is done

-- how much room a mesh takes
abbrev size : Mesh → Room
size w = room w.offsets w.corners w.coords

-- it leaves its mesh at the front of what it wrote, and as much room as there was
pub record Left (fs : List (List ℕ)) (xs : List Float) (b b' : Mesh) : Type 0 where
  pub is : front (counts_of fs xs) b' ≡ mesh (offsets_of fs) (flat fs) xs
  pub room : size b' ≡ size b
  pub within : Within (counts_of fs xs) b'

mesh-is : {o o' k k' : List ℕ} {x x' : List Float} → o ≡ o' → k ≡ k' → x ≡ x' → mesh o k x ≡ mesh o' k' x'
mesh-is p q r = λ i. mesh (p i) (q i) (r i)

room-is : {a a' b b' c c' : ℕ} → a ≡ a' → b ≡ b' → c ≡ c' → ◌≡◌ {A = Room} (record { offsets = a; corners = b; coords = c }) (record { offsets = a'; corners = b'; coords = c' })
room-is p q r = λ i. record { offsets = p i; corners = q i; coords = r i }

left_by :
    (fs : List (List ℕ)) (xs : List Float) (b b' : Mesh) → Written fs xs (length b.offsets) (length b.corners) (length b.coords) →
    b'.offsets ≡ over (offsets_of fs) b.offsets → b'.corners ≡ over (flat fs) b.corners → b'.coords ≡ over xs b.coords →
    Left fs xs b b'
left_by fs xs b b' w p q r =
    let n = length-offsets fs in
    let f = w.room in
    let u : get_or b'.offsets (length fs) 0 ≡ length (flat fs) = ap (λ (l : List ℕ). get_or l (length fs) 0) p ∙ last-offset fs b.offsets in
    let lo : length b'.offsets ≡ length b.offsets = long (offsets_of fs) b.offsets b'.offsets (omega (arith, f.faces-fit)) p in
    let lk : length b'.corners ≡ length b.corners = long (flat fs) b.corners b'.corners f.corners-fit q in
    let lx : length b'.coords ≡ length b.coords = long xs b.coords b'.coords f.coords-fit r in
    record {
      is = mesh-is (back (offsets_of fs) b.offsets b'.offsets _ (sym n) p) (back (flat fs) b.corners b'.corners _ u q) (back xs b.coords b'.coords _ w.whole r);
      room = room-is lo lk lx;
      within = record {
        offsets = omega (arith, f.faces-fit);
        corners = omega (arith, f.corners-fit);
        coords = omega (arith, f.coords-fit, w.whole);
      };
    }

-- what a step leaves of the room
module _ (m : Masks) (s : Step) (w : Mesh) {b b' : Mesh} where
  left_as : (fs : List (List ℕ)) (xs : List Float) → step_on m s w (size b) ≡ result fs xs →
      b'.offsets ≡ over (offsets_of fs) b.offsets → b'.corners ≡ over (flat fs) b.corners → b'.coords ≡ over xs b.coords → Left fs xs b b'
  left_as fs xs e =
      left_by fs xs b b' (step-written s m.given m.arities m.numbers w.offsets w.corners w.coords (length b.offsets) (length b.corners) (length b.coords) fs xs e)

  pub same-size : {made : Answer} → Came (step_on m s w (size b)) b.offsets b.corners b.coords made b'.offsets b'.corners b'.coords → size b' ≡ size b
  same-size {made} h = go (step_on m s w (size b)) refl h
    where
      go : (q : Outcome) → step_on m s w (size b) ≡ q → Came q b.offsets b.corners b.coords made b'.offsets b'.corners b'.coords → size b' ≡ size b
      go (refused n p) e g = room-is (ap length g.offsets) (ap length g.corners) (ap length g.coords)
      go (result fs xs) e g = (left_as fs xs e g.offsets g.corners g.coords).room

-- a step before the last, into the work mesh b, and the steps that go on from its answer
module _ (s : Step) (k : ℕ) (rows : List Row) where
  module _ (m : Masks) (w : Mesh) {ran : Ran} {b b' : Mesh} (h : Chained (lastly s (k + 1) (step_on m s w (size b))) k rows ran b b') where
    left_in : (fs : List (List ℕ)) (xs : List Float) → step_on m s w (size b) ≡ result fs xs → Left fs xs b b'
    left_in fs xs e =
        let g : Chained (lastly s (k + 1) (result fs xs)) k rows ran b b' = subst (λ (q : Outcome). Chained (lastly s (k + 1) q) k rows ran b b') e h in
        left_as m s w fs xs e g.ended.offsets g.ended.corners g.ended.coords

    pub ready_on : (left : ℕ) → k + 1 + left < 16 → IfOk ran.answer (λ c. Ready left ran.done c b')
    ready_on left l = go (step_on m s w (size b)) refl h
      where
        go : (q : Outcome) → step_on m s w (size b) ≡ q → Chained (lastly s (k + 1) q) k rows ran b b' → IfOk ran.answer (λ c. Ready left ran.done c b')
        go (refused n p) e g = rw g.ended.answer tt
        go (result fs xs) e g = rw g.ended.answer (record { most = omega (arith, g.done); within = (left_in fs xs e).within })

    on_by :
        (go : ℕ → Mesh → Room → Trail) {r : Ran} {z z' : Mesh} → Chained (from_answer ran.answer (λ c. go ran.done (front c b') (size b'))) ran.done ran.rows r z z' →
        Chained (onward s (k + 1) (step_on m s w (size b)) (λ v. go (k + 1) v (size b))) k rows r z z'
    on_by go {r} {z} {z'} f = by (step_on m s w (size b)) refl h
      where
        by : (q : Outcome) → step_on m s w (size b) ≡ q → Chained (lastly s (k + 1) q) k rows ran b b' → Chained (onward s (k + 1) q (λ v. go (k + 1) v (size b))) k rows r z z'
        by (refused n p) e g =
            let i : Chained (record { rows = []; step = k + 1; end = refused n p }) ran.done ran.rows r z z' =
            subst (λ (x : Answer). Chained (from_answer x (λ c. go ran.done (front c b') (size b'))) ran.done ran.rows r z z') g.ended.answer f in
            record { ended = i.ended; rows = i.rows ∙ g.rows; done = i.done ∙ ap (λ n. n + 0) (g.done ∙ add-zero k) }
        by (result fs xs) e g =
            let y = left_in fs xs e in
            let t = (go (k + 1) (mesh (offsets_of fs) (flat fs) xs) (size b)).rows in
            let i : Chained (go ran.done (front (counts_of fs xs) b') (size b')) ran.done ran.rows r z z' =
            subst (λ (x : Answer). Chained (from_answer x (λ c. go ran.done (front c b') (size b'))) ran.done ran.rows r z z') g.ended.answer f in
            let same : go ran.done (front (counts_of fs xs) b') (size b') ≡ go (k + 1) (mesh (offsets_of fs) (flat fs) xs) (size b) =
            ap (λ (n : ℕ). go n (front (counts_of fs xs) b') (size b')) g.done ∙ ap₂ (go (k + 1)) y.is y.room in
            let j : Chained (go (k + 1) (mesh (offsets_of fs) (flat fs) xs) (size b)) ran.done ran.rows r z z' = subst (λ (x : Trail). Chained x ran.done ran.rows r z z') same i in
            record {
              ended = record { answer = j.ended.answer; offsets = j.ended.offsets; corners = j.ended.corners; coords = j.ended.coords };
              rows = j.rows ∙ ap₂ (λ (l : List Row) (n : ℕ). sets l n t) g.rows g.done ∙ ap (λ (n : ℕ). sets (set rows k (row_of s fs xs)) n t) (add-one k);
              done = j.done ∙ omega (arith, g.done);
            }

-- ---- the steps that go on from an answer

-- none after a refusal
pub chained-stop : (go : Counts → Trail) {r : Ran} {e : Stop} {z : Mesh} → r.answer ≡ Err e → Chained (from_answer r.answer go) r.done r.rows r z z
chained-stop go {r} f = rw f (record { ended = record { answer = refl; offsets = refl; corners = refl; coords = refl }; rows = refl; done = sym (add-zero r.done) })

pub chained-from : {x : Answer} {c : Counts} (go : Counts → Trail) {k : ℕ} {rows : List Row} {r : Ran} {z z' : Mesh} → x ≡ Ok c →
    Chained (go c) k rows r z z' → Chained (from_answer x go) k rows r z z'
chained-from go e h = rw e h

-- the last step
pub chained-last :
    (m : Masks) (s : Step) (l : List Step) (k : ℕ) (rows : List Row) (a b : Room) {v w : Mesh} {r : Ran} {z z' : Mesh} → length l ≡ 0 → v ≡ w →
    Chained (lastly s (k + 1) (step_on m s v (size z))) k rows r z z' → Chained (trail m (s ∷ l) (k + 1) w a b (size z)) k rows r z z'
unfolding trail
chained-last m s [] k rows a b {r = r} {z = z} {z' = z'} e u h = subst (λ (w : Mesh). Chained (lastly s (k + 1) (step_on m s w (size z))) k rows r z z') u h
chained-last m s (t ∷ ts) k rows a b e u h = absurd (omega arith)

-- one before it
pub chained-on :
    (m : Masks) (s t : Step) {l ts : List Step} (k : ℕ) (rows : List Row) (a z : Room) {v w : Mesh} {b b' : Mesh} {ran r : Ran} {x x' : Mesh} → l ≡ t ∷ ts → v ≡ w →
    Chained (lastly s (k + 1) (step_on m s v (size b))) k rows ran b b' →
    Chained (from_answer ran.answer (λ c. trail m (t ∷ ts) (ran.done + 1) (front c b') a (size b') z)) ran.done ran.rows r x x' →
    Chained (trail m (s ∷ l) (k + 1) w (size b) a z) k rows r x x'
unfolding trail
chained-on m s t {l} {ts} k rows a z {v} {w} {b} {b'} e u h f = rw (e, ← u) (on_by s k rows m v h (λ n v b. trail m (t ∷ ts) (n + 1) v a b z) f)

-- ---- how many rows there are

few-last : (s : Step) (i : ℕ) (q : Outcome) → length (lastly s i q).rows ≤ 1
few-last s i (refused n p) = omega arith
few-last s i (result fs xs) = omega arith

few_on : (s : Step) (i n : ℕ) (q : Outcome) (go : Mesh → Trail) → ((v : Mesh) → length (go v).rows ≤ n) → length (onward s i q go).rows ≤ suc n
few_on s i n (refused _ p) go h = omega arith
few_on s i n (result fs xs) go h = let w = h (mesh (offsets_of fs) (flat fs) xs) in omega arith

pub trail-few : (m : Masks) (l : List Step) (i : ℕ) (w : Mesh) (a b z : Room) → length (trail m l i w a b z).rows ≤ length l
unfolding trail
trail-few m [] i w a b z = omega arith
trail-few m (s ∷ []) i w a b z = few-last s i (step_on m s w z)
trail-few m (s ∷ (t ∷ ts)) i w a b z = few_on s i (length (t ∷ ts)) (step_on m s w a) _ (λ (v : Mesh). trail-few m (t ∷ ts) (i + 1) v b a z)
