-- What is known of a step that is done: its result fits the room and has three coordinates a position. Assumes nothing.
use Rattle.std.specs.Prelude.{Ok, Err}
use Rattle.std.specs.Prelude.{◌≡◌, List, ℕ, ◌*◌, ◌/◌, Float, true}
use Rattle.std.proofs.Math.Path.{refl, ap}
use Rattle.std.proofs.Common.{sym, ◌∙◌, arith}
use Rattle.std.proofs.Math.ListN.{length}
use Rattle.mesh.specs.Tests.{Test, verdict, both-good, size_tests, face_tests}
use Rattle.mesh.specs.Verdict.{Verdict}
use Rattle.mesh.specs.Verdict.{Good}
use Rattle.picks.specs.declared.Mask.{Mask}
use Rattle.rule.specs.Flat.{flat}
use Rattle.engine.specs.Result.{result, outcome_of, outcome, table, asked, room_tests, finite_tests}
use Rattle.engine.specs.ResultLaws.{by-groups, Fits, room-good}
use Rattle.engine.specs.Plan.{plan_coords}
use Rattle.engine.specs.Laws.{coords-by}
use Rattle.engine.specs.declared.Plan.{Plan}
use Rattle.engine.specs.declared.Asks.{Asks}
use Rattle.operators.specs.Numbers.{third, half, ratio_of, height_of, quinto_height}
use Rattle.operators.specs.Operators.{reverse_outcome, reflect_outcome, triangulate_outcome, ambo_outcome, dual_outcome, kis_outcome, chamfer_outcome, gyro_outcome, propellor_outcome, whirl_outcome, quinto_outcome}
use Rattle.operators.specs.PlanLaws.{Makes, reverse-makes, reflect-makes, triangulate-makes, ambo-makes, dual-makes, kis-makes, chamfer-makes, gyro-makes, propellor-makes, whirl-makes, quinto-makes}
use Rattle.steps.specs.Steps.{step_outcome}
use Rattle.steps.specs.declared.Step.{Step}
use Rattle.steps.specs.declared.Step.TheVariants.{Ambo, Chamfer, Dual, Gyro, Kis, Propellor, Quinto, Reflect, Reverse, Whirl, Triangulate}

pub record Written (fs : List (List ℕ)) (xs : List Float) (lo lc lx : ℕ) : Type 0 where
  pub room : Fits (length fs) (length (flat fs)) (length xs) lo lc lx
  pub whole : 3 * (length xs / 3) ≡ length xs

-- a result was not refused
judge : (v : Verdict) (fs gs : List (List ℕ)) (xs ys : List Float) → outcome_of v fs xs ≡ result gs ys → (v ≡ Good) × ((fs ≡ gs) × (xs ≡ ys))
judge (Ok _) fs gs xs ys e = (refl, (cc, cc))
judge (Err r) fs gs xs ys e = absurd (let z : ◌≡◌ {A = ℕ} 0 1 = cc in omega arith)

fitted : (a : Asks) (o k : List ℕ) (x : List Float) (own : List Test) (fs : List (List ℕ)) (xs : List Float) (lo lc lx : ℕ) →
    verdict (table a o k x own fs xs lo lc lx) ≡ Good → Fits (length fs) (length (flat fs)) (length xs) lo lc lx
fitted a o k x own fs xs lo lc lx e =
    let R = verdict (room_tests (length fs) (length (flat fs)) (length xs) lo lc lx) in
    let r = (both-good (verdict (size_tests o (length k) (length x))) _ (sym (by-groups a o k x own fs xs lo lc lx) ∙ e)).1 in
    let s = (both-good (verdict own) _ r).1 in
    let t = (both-good (verdict (face_tests o k x)) _ s).1 in
    let u = (both-good (verdict (asked a o k x)) _ t).1 in
    room-good _ _ _ _ _ _ (both-good R (verdict (finite_tests xs)) u).0

threes : (m n : ℕ) → 3 * m ≡ n → 3 * (n / 3) ≡ n
threes m n e = omega arith

module _ (l n o k : List ℕ) (x : List Float) (own : List Test) (lo lc lx : ℕ) (gs : List (List ℕ)) (ys : List Float) where
  written : (p : Plan) (a : Asks) (fs : List (List ℕ)) (xs : List Float) → Makes p l n o k x a fs xs → outcome a o k x own fs xs lo lc lx ≡ result gs ys → Written gs ys lo lc lx
  unfolding outcome
  written p a fs xs m e =
      let j = judge (verdict (table a o k x own fs xs lo lc lx)) fs gs xs ys e in
      let w : length (plan_coords p l n o k x) ≡ length ys = ap length (m.coords ∙ j.1.1) in
      rw (← j.1.0, ← j.1.1) (record { room = fitted a o k x own fs xs lo lc lx j.0; whole = threes _ _ (coords-by p l n o k x _ _ _ refl refl refl ∙ ap length m.coords) })

-- a step that is done
pub step-written :
    (s : Step) (m : Mask) (l n o k : List ℕ) (x : List Float) (lo lc lx : ℕ) (gs : List (List ℕ)) (ys : List Float) →
    step_outcome s m l n o k x lo lc lx ≡ result gs ys → Written gs ys lo lc lx
unfolding reverse_outcome reflect_outcome triangulate_outcome ambo_outcome dual_outcome kis_outcome chamfer_outcome gyro_outcome propellor_outcome whirl_outcome quinto_outcome
step-written (Ambo t) m l n o k x lo lc lx gs ys e = written l n o k x _ lo lc lx gs ys _ _ _ _ (ambo-makes l n o k x (ratio_of half t)) e
step-written (Chamfer t) m l n o k x lo lc lx gs ys e = written l n o k x _ lo lc lx gs ys _ _ _ _ (chamfer-makes l n o k x (ratio_of half t)) e
step-written Dual m l n o k x lo lc lx gs ys e = written l n o k x _ lo lc lx gs ys _ _ _ _ (dual-makes l n o k x) e
step-written (Gyro t h) m l n o k x lo lc lx gs ys e = written l n o k x _ lo lc lx gs ys _ _ _ _ (gyro-makes l n o k x (ratio_of third t) (height_of h)) e
step-written (Kis h) m l n o k x lo lc lx gs ys e = written l n o k x _ lo lc lx gs ys _ _ _ _ (kis-makes l n o k x m (height_of h)) e
step-written (Propellor t) m l n o k x lo lc lx gs ys e = written l n o k x _ lo lc lx gs ys _ _ _ _ (propellor-makes l n o k x (ratio_of third t)) e
step-written (Quinto h) m l n o k x lo lc lx gs ys e = written l n o k x _ lo lc lx gs ys _ _ _ _ (quinto-makes l n o k x (quinto_height h)) e
step-written Reflect m l n o k x lo lc lx gs ys e = written l n o k x _ lo lc lx gs ys _ _ _ _ (reflect-makes l n o k x) e
step-written Reverse m l n o k x lo lc lx gs ys e = written l n o k x _ lo lc lx gs ys _ _ _ _ (reverse-makes l n o k x) e
step-written (Whirl t h) m l n o k x lo lc lx gs ys e = written l n o k x _ lo lc lx gs ys _ _ _ _ (whirl-makes l n o k x (ratio_of third t) (height_of h)) e
step-written Triangulate m l n o k x lo lc lx gs ys e = written l n o k x _ lo lc lx gs ys _ _ _ _ (triangulate-makes l n o k x true) e
