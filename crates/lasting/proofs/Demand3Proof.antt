-- Demand 3: of one step, of every list of steps, and V - E + F at the end. Assumes nothing.
use Rattle.std.specs.Prelude.{◌≡◌, refl, Bool, true, false, cond, ℕ, ◌+◌, ◌*◌, Float, None}
use Rattle.std.proofs.Common.{sym, ap, subst, true≢false, arith}
use mathlib.Core.List.{List, [], ◌∷◌}
use Rattle.mesh.specs.Edges.{edges}
use Rattle.rule.specs.Named.{positions}
use Rattle.rule.specs.Flat.{flat, offsets_of}
use Rattle.engine.specs.Result.{Outcome, refused, result}
use Rattle.operators.specs.Numbers.{third, half, ratio_of, height_of, quinto_height}
use Rattle.operators.specs.Operators.{kis_outcome, chamfer_outcome, gyro_outcome, propellor_outcome, whirl_outcome, quinto_outcome}
use Rattle.steps.specs.Steps.{Mesh, Room, Masks, mesh, step_on}
use Rattle.steps.specs.declared.Step.{Step}
use Rattle.steps.specs.declared.Step.TheVariants.{Ambo, Chamfer, Dual, Gyro, Kis, Propellor, Quinto, Reflect, Reverse, Whirl, Triangulate}
use Rattle.closed.specs.Keeps.{Shell}
use Rattle.lasting.specs.Demand3.{steady, Passes, edges_in, corners_picked, SameX, Lasts, Turn, turn_on, all_steady, After, Lasting, Demand3, Into, Reached}
use Rattle.closed.proofs.Chamfer.{chamfer-keeps}
use Rattle.closed.proofs.Gyro.{gyro-keeps}
use Rattle.closed.proofs.Propellor.{propellor-keeps}
use Rattle.closed.proofs.Whirl.{whirl-keeps}
use Rattle.closed.proofs.Quinto.{quinto-keeps}
use Rattle.closed.proofs.Kis.{kis-keeps}
use Rattle.lasting.specs.Long.{chamfer-long, gyro-long, propellor-long, whirl-long, quinto-long, kis-long}
use Rattle.lasting.specs.Again.{shell}
use Rattle.lasting.proofs.Table.{grown, edges-half, call-lasts}

-- ---- one step
module _ (m : Masks) (w : Mesh) (r : Room) (p : Passes w) where
  abbrev o : List ℕ
  o = w.offsets

  abbrev k : List ℕ
  k = w.corners

  abbrev x : List Float
  x = w.coords

  s : Shell o k (positions x)
  s = shell o k x p

  times : (n : ℕ) → n * edges o k ≡ n * edges_in w
  times n = ap (λ (e : ℕ). n * e) (edges-half w p)

  step : (a : Step) → steady a ≡ true → Lasts m a w (step_on m a w r)
  unfolding chamfer_outcome gyro_outcome propellor_outcome whirl_outcome quinto_outcome kis_outcome
  step (Chamfer t) h =
      call-lasts m (Chamfer t) w p (grown w _ (chamfer-keeps o k x s) (chamfer-long m.given [] [] o k x (ratio_of half t))) (times 4) t None r.offsets r.corners r.coords
  step (Gyro t y) h =
      call-lasts m (Gyro t y) w p (grown w _ (gyro-keeps o k x s) (gyro-long m.given [] [] o k x (ratio_of third t) (height_of y))) (times 5) t y r.offsets r.corners r.coords
  step (Propellor t) h =
      call-lasts m (Propellor t) w p (grown w _ (propellor-keeps o k x s) (propellor-long m.given [] [] o k x (ratio_of third t))) (times 5) t None r.offsets r.corners r.coords
  step (Whirl t y) h =
      call-lasts m (Whirl t y) w p (grown w _ (whirl-keeps o k x s) (whirl-long m.given [] [] o k x (ratio_of third t) (height_of y))) (times 7) t y r.offsets r.corners r.coords
  step (Quinto y) h =
      call-lasts m (Quinto y) w p (grown w _ (quinto-keeps o k x s) (quinto-long m.given [] [] o k x (quinto_height y))) (times 6) None y r.offsets r.corners r.coords
  step (Kis y) h =
      call-lasts m (Kis y) w p
      (grown w _ (kis-keeps m.given m.arities m.numbers o k x s) (kis-long m.given m.arities m.numbers o k x (height_of y)))
      (ap (λ (e : ℕ). e + corners_picked m w) (edges-half w p)) None y r.offsets r.corners r.coords
  step (Ambo t) h = absurd (true≢false (sym h))
  step Dual h = absurd (true≢false (sym h))
  step Reflect h = absurd (true≢false (sym h))
  step Reverse h = absurd (true≢false (sym h))
  step Triangulate h = absurd (true≢false (sym h))

pub one-step : (m : Masks) (s : Step) (w : Mesh) (r : Room) → steady s ≡ true → Passes w → Lasts m s w (step_on m s w r)
one-step m s w r h p = step m w r p s h

-- ---- every list of steps
both : (a b : Bool) → cond a b false ≡ true → (a ≡ true) × (b ≡ true)
both true b e = (refl, e)
both false b e = absurd (true≢false (sym e))

after : (t : Turn) (w : Mesh) (P : Mesh → Type 0) (q : Outcome) → Lasts t.masks t.step w q → ((v : Mesh) → Passes v → P v) → After q P
after t w P (refused n i) l f = tt
after t w P (result fs xs) l f = f (mesh (offsets_of fs) (flat fs) xs) l.passes

pub demand3 : Demand3
unfolding all_steady Lasting
demand3 [] w e p = tt
demand3 (t ∷ ts) w e p =
    let b = both (steady t.step) (all_steady ts) e in
    let l = one-step t.masks t.step w t.room b.0 p in
    (l, after t w (Lasting ts) (turn_on t w) l (λ v q. demand3 ts v b.1 q))

-- ---- V - E + F of the mesh that is there at the end
then_same : (u v w : Mesh) → SameX w u → SameX u v → SameX w v
then_same u v w a b = omega arith

into : (t : Turn) (w v : Mesh) (P : Mesh → Type 0) (q : Outcome) → Lasts t.masks t.step w q → Into q P → ((u : Mesh) → Passes u → SameX w u → P u → Passes v × SameX w v) → Passes v × SameX w v
into t w v P (refused n i) l g f = absurd g
into t w v P (result fs xs) l g f = f (mesh (offsets_of fs) (flat fs) xs) l.passes l.same g

pub end_same : (ts : List Turn) (w v : Mesh) → all_steady ts ≡ true → Passes w → Reached ts w v → Passes v × SameX w v
unfolding all_steady Reached
end_same [] w v e p g = (subst Passes g p, subst (SameX w) g refl)
end_same (t ∷ ts) w v e p g =
    let b = both (steady t.step) (all_steady ts) e in
    let l = one-step t.masks t.step w t.room b.0 p in
    into t w v (λ u. Reached ts u v) (turn_on t w) l g (λ u q a r. let z = end_same ts u v b.1 q r in (z.0, then_same u v w a z.1))
