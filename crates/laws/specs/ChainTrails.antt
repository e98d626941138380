-- Laws of trails, over what a step answers and what it left in the lent slices, that no proof of their crate calls. Assumes nothing.
use Rattle.std.specs.Prelude.{◌≡◌, refl, List, [], ◌∷◌, ℕ, suc, ◌+◌, ◌-◌, ◌<◌, ◌≤◌, length, get_or, set, take, drop, Float}
use Rattle.std.proofs.Common.{sym, ◌∙◌, ap, ap₂, subst, add-zero, add-one, arith, drop-cons, get_or-take, length-take-le}
use Rattle.std.proofs.lemmas.List.Edits.{sets}
use Rattle.std.proofs.Math.Seq.{drop-length}
use Rattle.rule.specs.Flat.{flat, offsets_of}
use Rattle.engine.specs.Result.{Outcome, refused, result, Came}
use Rattle.engine.specs.declared.Counts.{Counts}
use Rattle.engine.specs.Answer.{Answer, Done, Refused}
use Rattle.steps.specs.Steps.{Mesh, Room, Masks, mesh, room, step_on}
use Rattle.steps.specs.declared.Step.{Step}
use Rattle.chain.specs.Trail.{Trail, row_of, lastly, onward, trail}
use Rattle.chain.specs.Chained.{row_with, finish_of, extent_of, front, front_at, Spans, Ready, Chained}
use Rattle.chain.specs.ChainLaws.{spans}
use Rattle.chain.specs.declared.Row.{Row}
use Rattle.chain.specs.declared.Ran.{Ran}
use Rattle.chain.specs.declared.Extent.{Extent}
use Rattle.laws.specs.ChainNext.{Next, went}

-- the steps after one that is done can be done
pub ready_on :
    {q : Outcome} {c : Counts} {o k o' k' : List ℕ} {x x' : List Float} (n i : ℕ) → Next q c o k x o' k' x' → i < n → n ≤ 16 → Ready (n - (i + 1)) i c (mesh o' k' x')
ready_on n i y l m = rw y.counts (record { most = omega arith; within = y.left.within })

pub spans_on : {q : Outcome} {c : Counts} {o k o' k' : List ℕ} {x x' : List Float} (e : Extent) → Next q c o k x o' k' x' → e ≡ extent_of c o' → Spans e (mesh o' k' x')
spans_on {o' = o'} e y u = spans (u ∙ ap (λ (c : Counts). extent_of c o') y.counts) y.left.within

-- ---- one step of a trail

module _ (s : Step) (k : ℕ) (rows : List Row) where
  -- the last one
  last-by :
      (q : Outcome) {made : Answer} {r : Ran} {o c o' c' : List ℕ} {x x' : List Float} → Came q o c x made o' c' x' → r ≡ finish_of made s k rows →
      Chained (lastly s (k + 1) q) k rows r (mesh o c x) (mesh o' c' x')
  last-by (refused n p) w e =
      let a = e ∙ ap (λ (z : Answer). finish_of z s k rows) w.answer in
      record {
        ended = record { answer = ap (λ (z : Ran). z.answer) a; offsets = w.offsets; corners = w.corners; coords = w.coords };
        rows = ap (λ (z : Ran). z.rows) a;
        done = ap (λ (z : Ran). z.done) a ∙ sym (add-zero k);
      }
  last-by (result fs xs) w e =
      let a = e ∙ ap (λ (z : Answer). finish_of z s k rows) w.answer in
      record {
        ended = record { answer = ap (λ (z : Ran). z.answer) a; offsets = w.offsets; corners = w.corners; coords = w.coords };
        rows = ap (λ (z : Ran). z.rows) a;
        done = ap (λ (z : Ran). z.done) a;
      }

  -- one that is refused
  stop-by :
      (q : Outcome) (go : Mesh → Trail) {made : Answer} {n p i : ℕ} {r : Ran} {a b a' b' o c : List ℕ} {y y' x : List Float} →
      Came q a b y made a' b' y' → made ≡ Refused n p i → r ≡ finish_of made s k rows → Chained (onward s (k + 1) q go) k rows r (mesh o c x) (mesh o c x)
  stop-by (refused n p) go w m e =
      let a = e ∙ ap (λ (z : Answer). finish_of z s k rows) w.answer in
      record {
        ended = record { answer = ap (λ (z : Ran). z.answer) a; offsets = refl; corners = refl; coords = refl };
        rows = ap (λ (z : Ran). z.rows) a;
        done = ap (λ (z : Ran). z.done) a ∙ sym (add-zero k);
      }
  stop-by (result fs xs) go w m e = let g = w.answer in absurd (let z : ◌≡◌ {A = ℕ} 0 1 = cc in omega arith)

-- and the steps after it
on-by :
    (s : Step) (k : ℕ) (rows : List Row) (fs : List (List ℕ)) (xs : List Float) (go : Mesh → Trail) {more : List Row} {r : Ran} {o c o' c' : List ℕ} {x x' : List Float} →
    more ≡ set rows k (row_of s fs xs) → Chained (go (mesh (offsets_of fs) (flat fs) xs)) (k + 1) more r (mesh o c x) (mesh o' c' x') →
    Chained (onward s (k + 1) (result fs xs) go) k rows r (mesh o c x) (mesh o' c' x')
on-by s k rows fs xs go {more} e h =
    let t = (go (mesh (offsets_of fs) (flat fs) xs)).rows in
    let d = h.done in
    record {
      ended = record { answer = h.ended.answer; offsets = h.ended.offsets; corners = h.ended.corners; coords = h.ended.coords };
      rows = h.rows ∙ ap (λ (l : List Row). sets l (k + 1) t) e ∙ ap (λ (i : ℕ). sets (set rows k (row_of s fs xs)) i t) (add-one k);
      done = h.done ∙ omega arith;
    }

-- ---- the steps that are left

-- cut at the next one
left-cons : (steps : List Step) (n k : ℕ) (d : Step) → k < n → n ≤ length steps → drop k (take n steps) ≡ get_or steps k d ∷ drop (suc k) (take n steps)
left-cons steps n k d h l =
    let e : length (take n steps) ≡ n = length-take-le n steps l in
    let w : k < length (take n steps) = omega arith in
    drop-cons (take n steps) k d w ∙ ap (λ (s : Step). s ∷ drop (suc k) (take n steps)) (get_or-take n steps k d h)

left-none : (steps : List Step) (n k : ℕ) → k + 1 ≡ n → n ≤ length steps → drop (suc k) (take n steps) ≡ []
left-none steps n k h l =
    let e : length (take n steps) ≡ n = length-take-le n steps l in
    let w : suc k ≡ length (take n steps) = omega arith in
    ap (λ (j : ℕ). drop j (take n steps)) w ∙ drop-length (take n steps)

module _ (m : Masks) (steps : List Step) (n k : ℕ) (d : Step) (w : Mesh) (most : n ≤ length steps) where
  abbrev S : Step
  S = get_or steps k d

  abbrev rest : ℕ → List Step
  rest j = drop j (take n steps)

  trail-last : (a b z : Room) → k + 1 ≡ n → trail m (rest k) (k + 1) w a b z ≡ lastly S (k + 1) (step_on m S w z)
  unfolding trail
  trail-last a b z h =
      let l : k < n = omega arith in
      ap (λ (l : List Step). trail m l (k + 1) w a b z) (left-cons steps n k d l most ∙ ap (λ (l : List Step). S ∷ l) (left-none steps n k h most))

  trail_more : (a b z : Room) → k < n → (k + 1 ≡ n → ⊥) → trail m (rest k) (k + 1) w a b z ≡ onward S (k + 1) (step_on m S w a) (λ (v : Mesh). trail m (rest (k + 1)) (k + 1 + 1) v b a z)
  unfolding trail
  trail_more a b z l ne =
      let g : suc k < n = omega arith in
      let e = left-cons steps n (suc k) d g most in
      ap (λ (l : List Step). trail m l (k + 1) w a b z) (left-cons steps n k d l most ∙ ap (λ (l : List Step). S ∷ l) e)
      ∙ ap (λ (l : List Step). onward S (k + 1) (step_on m S w a) (λ (v : Mesh). trail m l (k + 1 + 1) v b a z)) (sym e ∙ ap rest (sym (add-one k)))

  -- the last step
  pub chained-last :
      (a b : Room) (rows : List Row) {made : Answer} {r : Ran} {o c o' c' : List ℕ} {x x' : List Float} → k + 1 ≡ n →
      Came (step_on m S w (room o c x)) o c x made o' c' x' → r ≡ finish_of made S k rows →
      Chained (trail m (rest k) (k + 1) w a b (room o c x)) k rows r (mesh o c x) (mesh o' c' x')
  chained-last a b rows {o = o} {c = c} {x = x} h q e = rw (trail-last a b (room o c x) h) (last-by S k rows (step_on m S w (room o c x)) q e)

  module _ (bo bc : List ℕ) (bx : List Float) (a z : Room) (rows : List Row) (l : k < n) (ne : k + 1 ≡ n → ⊥) where
    abbrev q : Outcome
    q = step_on m S w (room bo bc bx)

    -- a step before it, refused
    pub chained-stop :
        {made : Answer} {i j h : ℕ} {r : Ran} {bo' bc' o c : List ℕ} {bx' x : List Float} →
        Came q bo bc bx made bo' bc' bx' → made ≡ Refused i j h → r ≡ finish_of made S k rows →
        Chained (trail m (rest k) (k + 1) w (room bo bc bx) a z) k rows r (mesh o c x) (mesh o c x)
    chained-stop g f e = rw (trail_more (room bo bc bx) a z l ne) (stop-by S k rows q _ g f e)

    -- or done
    pub chained-on :
        {made : Answer} (cs : Counts) (ran : Ran) {r : Ran} {bo' bc' o c o' c' : List ℕ} {bx' x x' : List Float} →
        Came q bo bc bx made bo' bc' bx' → made ≡ Done cs → ran ≡ finish_of made S k rows →
        Chained (trail m (rest (k + 1)) (k + 1 + 1) (front cs (mesh bo' bc' bx')) a (room bo' bc' bx') z) (k + 1) ran.rows r (mesh o c x) (mesh o' c' x') →
        Chained (trail m (rest k) (k + 1) w (room bo bc bx) a z) k rows r (mesh o c x) (mesh o' c' x')
    chained-on {made} cs ran {r} {bo'} {bc'} {o} {c} {o'} {c'} {bx'} {x} {x'} g f v h =
        let y = went m S w bo bc bx cs g f in
        let fs : List (List ℕ) = y.fs in
        let xs : List Float = y.xs in
        let go : Mesh → Trail = λ (v : Mesh). trail m (rest (k + 1)) (k + 1 + 1) v a (room bo bc bx) z in
        let more : ran.rows ≡ set rows k (row_of S fs xs) = ap (λ (z : Ran). z.rows) (v ∙ ap (λ (b : Answer). finish_of b S k rows) f) ∙ ap (λ (cs : Counts). set rows k (row_with S cs)) y.counts in
        let t : trail m (rest (k + 1)) (k + 1 + 1) (front cs (mesh bo' bc' bx')) a (room bo' bc' bx') z ≡ go (mesh (offsets_of fs) (flat fs) xs) =
        ap (λ (cs : Counts). trail m (rest (k + 1)) (k + 1 + 1) (front cs (mesh bo' bc' bx')) a (room bo' bc' bx') z) y.counts
        ∙ ap₂ (λ (v : Mesh) (b : Room). trail m (rest (k + 1)) (k + 1 + 1) v a b z) y.left.is y.left.room in
        rw (trail_more (room bo bc bx) a z l ne, y.outcome)
        (on-by S k rows fs xs go more (subst (λ (t : Trail). Chained t (k + 1) ran.rows r (mesh o c x) (mesh o' c' x')) t h))

    -- the same, by the extent of its mesh
    pub chained-extent :
        {made : Answer} (cs : Counts) (e : Extent) (ran : Ran) {r : Ran} {bo' bc' o c o' c' : List ℕ} {bx' x x' : List Float} →
        Came q bo bc bx made bo' bc' bx' → made ≡ Done cs → e ≡ extent_of cs bo' → ran ≡ finish_of made S k rows →
        Chained (trail m (rest (k + 1)) (k + 1 + 1) (front_at e (mesh bo' bc' bx')) a (room bo' bc' bx') z) (k + 1) ran.rows r (mesh o c x) (mesh o' c' x') →
        Chained (trail m (rest k) (k + 1) w (room bo bc bx) a z) k rows r (mesh o c x) (mesh o' c' x')
    chained-extent cs e ran g f u v h = chained-on cs ran g f v (rw u at h)
