-- A run from its parts as the code has them, and how many rows it has. Assumes nothing.
use Rattle.std.specs.Prelude.{◌≡◌, Bool, true, false, cond, List, ◌∷◌, ℕ, ◌<◌, ◌≤◌, min, length, take, replicate, ltb}
use Rattle.std.proofs.Math.Path.{refl}
use Rattle.std.proofs.Common.{◌∙◌, ap, zero-add, length-take, take_all, le_refl, lt-ltb, le-ltb, ltb-false}
use native.Mathlib.Omega.{arith}
use Rattle.slices.specs.Lists.{sets_over, zero_f}
use Rattle.engine.specs.Result.{Outcome, refused, result, answer_of, Came}
use Rattle.engine.specs.Answer.{Answer, Refused}
use Rattle.steps.specs.Steps.{Mesh, Room, Masks, room}
use Rattle.steps.specs.declared.Step.{Step}
use Rattle.copies.specs.Copy.{copy_outcome}
use Rattle.mesh.specs.declared.MeshMut.{MeshMut}
use Rattle.chain.specs.Lent.{IsKept}
use Rattle.chain.specs.Trail.{trail, stopped, answer_at, Zero}
use Rattle.chain.specs.Chained.{Chained}
use Rattle.chain.specs.ChainLaws.{trail-few}
use Rattle.chain.specs.declared.Row.{Row}
use Rattle.chain.specs.declared.Ran.{Ran}
use Rattle.runner.specs.Run.{run_trail, blanks, Went}

-- ---- how many rows there are

module _ (m : Masks) (steps : List Step) (n : ℕ) (w : Mesh) (a b z : Room) where
  few : (t : Bool) → ltb 16 n ≡ t → length (cond t (stopped 2 3) (trail m (take n steps) 1 w a b z)).rows ≤ min n 16
  few true e = omega arith
  few false e =
      let l = trail-few m (take n steps) 1 w a b z in
      let h = length-take n steps in
      let g = ltb-false 16 n e in
      omega arith

  pub rows_few : length (run_trail m steps n w a b z).rows ≤ n
  unfolding run_trail
  rows_few = let h = few (ltb 16 n) refl in omega arith

  pub rows-most : length (run_trail m steps n w a b z).rows ≤ 16
  unfolding run_trail
  rows-most = let h = few (ltb 16 n) refl in omega arith

  -- ---- the three ways through a run

  -- too many steps
  pub run-many : {rows : List Row} {r : Ran} {x : Mesh} → 16 < n → r ≡ record { answer = Refused 2 3 0; rows = rows; done = 0 } → Chained (run_trail m steps n w a b z) 0 rows r x x
  unfolding run_trail
  run-many h e = rw (lt-ltb _ _ h, e) (record { ended = record { answer = refl; offsets = refl; corners = refl; coords = refl }; rows = refl; done = refl })

  -- one step or more
  pub run-list :
      n ≤ 16 → {rows : List Row} {r : Ran} {x x' : Mesh} → Chained (trail m (take n steps) 1 w a b z) 0 rows r x x' →
      Chained (run_trail m steps n w a b z) 0 rows r x x'
  unfolding run_trail
  run-list h e = rw (le-ltb _ _ h) e

-- no steps
no_step : (q : Outcome) → answer_of q ≡ answer_at 0 q
no_step (refused n p) = refl
no_step (result fs xs) = refl

pub run_none :
    (m : Masks) (steps : List Step) (n : ℕ) (w : Mesh) (a b : Room) (rows : List Row) {r : Answer} {z z' : Mesh} → n ≤ 16 → n ≡ 0 →
    Came (copy_outcome w.offsets w.corners w.coords (length z.offsets) (length z.corners) (length z.coords)) z.offsets z.corners z.coords r z'.offsets z'.corners z'.coords →
    Chained (run_trail m steps n w a b (room z.offsets z.corners z.coords)) 0 rows (record { answer = r; rows = rows; done = 0 }) z z'
unfolding trail
run_none m steps n w a b rows {z = z} h e g =
    run-list m steps n w a b (room z.offsets z.corners z.coords) h
    (rw e (record {
      ended = record { answer = g.answer ∙ no_step (copy_outcome w.offsets w.corners w.coords (length z.offsets) (length z.corners) (length z.coords)); offsets = g.offsets; corners = g.corners; coords = g.coords };
      rows = refl;
      done = refl;
    }))

-- ---- all the steps of a list

pub none-whole :
    (m : Masks) (steps : List Step) (w : Mesh) (a b : Room) {rows : List Row} {made : Answer} {r : Ran} {z z' : Mesh} → length steps ≡ 0 →
    Came (copy_outcome w.offsets w.corners w.coords (length z.offsets) (length z.corners) (length z.coords)) z.offsets z.corners z.coords made z'.offsets z'.corners z'.coords →
    r ≡ record { answer = made; rows = rows; done = 0 } → Chained (run_trail m steps (length steps) w a b (room z.offsets z.corners z.coords)) 0 rows r z z'
none-whole m steps w a b {rows} h g e = rw e (run_none m steps (length steps) w a b rows (omega arith) h g)

pub list-whole :
    (m : Masks) {steps l : List Step} {s : Step} (w : Mesh) (a b z : Room) {rows : List Row} {r : Ran} {x x' : Mesh} → length steps ≤ 16 → steps ≡ s ∷ l →
    Chained (trail m (s ∷ l) 1 w a b z) 0 rows r x x' → Chained (run_trail m steps (length steps) w a b z) 0 rows r x x'
list-whole m {steps} w a b z few e h = run-list m steps (length steps) w a b z few (rw (take_all (length steps) steps (le_refl (length steps)), e) h)

-- ---- the whole of it

-- a room kept by one call and by the next
pub kept-on : {a b c : MeshMut} → IsKept a b → IsKept b c → IsKept a c
kept-on p q =
    record {
      same = record { offsets = q.same.offsets ∙ p.same.offsets; corners = q.same.corners ∙ p.same.corners; coords = q.same.coords ∙ p.same.coords };
      size = q.size ∙ p.size;
    }

-- a mesh that was wiped, in as much room as another
pub zero-as : {m w u : Mesh} → Zero m.offsets m.corners m.coords w.offsets w.corners w.coords → room m.offsets m.corners m.coords ≡ room u.offsets u.corners u.coords →
    Zero u.offsets u.corners u.coords w.offsets w.corners w.coords
zero-as z e =
    record {
      offsets = z.offsets ∙ ap (λ (r : Room). replicate r.offsets 0) e;
      corners = z.corners ∙ ap (λ (r : Room). replicate r.corners 0) e;
      coords = z.coords ∙ ap (λ (r : Room). replicate r.coords zero_f) e;
    }

pub went-by :
    (m : Masks) (steps : List Step) (n : ℕ) (w : Mesh) (a b z : Room) {r : Ran} {p q x p' q' x' : Mesh} → Chained (run_trail m steps n w a b z) 0 blanks r x x' →
    Zero p.offsets p.corners p.coords p'.offsets p'.corners p'.coords → Zero q.offsets q.corners q.coords q'.offsets q'.corners q'.coords →
    Went (run_trail m steps n w a b z) p q x r p' q' x'
went-by m steps n w a b z h p q =
    record {
      ended = h.ended;
      first = p;
      second = q;
      rows = h.rows ∙ sets_over blanks (run_trail m steps n w a b z).rows (rows-most m steps n w a b z);
      done = h.done ∙ zero-add _;
    }
