-- Demand 3 in what a function answers and leaves in the slices that it is lent. Assumes nothing.
use Rattle.std.specs.Prelude.{◌≡◌, refl, true, List, ℕ, ◌+◌, ◌*◌, ◌/◌, length, drop, Float}
use Rattle.std.proofs.Common.{sym, subst, arith, take_at}
use Rattle.slices.specs.Lists.{over}
use Rattle.mesh.specs.Tests.{tests-good}
use Rattle.mesh.specs.Ranks.{halves}
use Rattle.picks.specs.declared.Mask.{Mask}
use Rattle.rule.specs.Flat.{flat, offsets_of, length-offsets}
use Rattle.engine.specs.Result.{Outcome, refused, result, counts_of, answer_of, offsets_after, corners_after, coords_after, Came}
use Rattle.engine.specs.ResultLaws.{whole-good}
use Rattle.engine.specs.Answer.{Answer}
use Rattle.steps.specs.Steps.{Mesh, Masks, mesh, masks, room, step_outcome}
use Rattle.steps.specs.declared.Step.{Step}
use Rattle.lasting.specs.Demand3.{steady, faces_in, Passes, Lasts, front, Answers}
use Rattle.lasting.specs.Again.{shell}
use Rattle.lasting.proofs.Demand3Proof.{one-step}

-- ---- a mesh that passes, written over lent slices, stands at their front
front-is :
    (fs : List (List ℕ)) (xs : List Float) (o k : List ℕ) (x : List Float) → Passes (mesh (offsets_of fs) (flat fs) xs) →
    mesh (offsets_of fs) (flat fs) xs ≡ front (counts_of fs xs) (over (offsets_of fs) o) (over (flat fs) k) (over xs x)
front-is fs xs o k x p =
    let h = halves (offsets_of fs) (flat fs) (shell (offsets_of fs) (flat fs) xs p).surface in
    let a : length (flat fs) ≡ 2 * (length (flat fs) / 2) = omega arith in
    let b : length xs ≡ 3 * (length xs / 3) = sym (whole-good (offsets_of fs) (length (flat fs)) (length xs) (tests-good (offsets_of fs) (flat fs) xs p).0) in
    sym (rw (
      take_at (offsets_of fs) (drop (length (offsets_of fs)) o) (length fs + 1) (length-offsets fs),
      take_at (flat fs) (drop (length (flat fs)) k) (2 * (length (flat fs) / 2)) a,
      take_at xs (drop (length xs) x) (3 * (length xs / 3)) b,
    ) refl)

module _ (m : Masks) (s : Step) (w : Mesh) (o k : List ℕ) (x : List Float) where
  told : (q : Outcome) → Lasts m s w q → Answers m s w (answer_of q) (offsets_after q o) (corners_after q k) (coords_after q x)
  told (refused n p) l = (l, refl)
  told (result fs xs) l =
      let f : faces_in (mesh (offsets_of fs) (flat fs) xs) ≡ length fs = omega (arith, length-offsets fs) in
      record { edges = l.edges; same = omega (arith, l.same, f); passes = subst Passes (front-is fs xs o k x l.passes) l.passes }

-- ---- what a steady step answers on a mesh that passes
pub step-answers :
    (s : Step) (m : Mask) (l n o k : List ℕ) (x : List Float) {u v u' v' : List ℕ} {y y' : List Float} {r : Answer} → steady s ≡ true → Passes (mesh o k x) →
    Came (step_outcome s m l n o k x (length u) (length v) (length y)) u v y r u' v' y' → Answers (masks m l n) s (mesh o k x) r u' v' y'
step-answers s m l n o k x {u} {v} {u'} {v'} {y} {y'} {r} h p c =
    rw (c.answer, c.offsets, c.corners, c.coords)
    (told (masks m l n) s (mesh o k x) u v y (step_outcome s m l n o k x (length u) (length v) (length y)) (one-step (masks m l n) s (mesh o k x) (room u v y) h p))
