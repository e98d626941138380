-- Laws of an operator at work, from the parts as the code has them. Assumes nothing.
use Rattle.std.specs.Prelude.{Ok, Err, IsErrAnd, ◌≡◌, refl, List, ◌++◌, ℕ, ◌+◌, ◌*◌, ◌<◌, ◌≤◌, length, set, Option, Some, None, IfSome, Float}
use Rattle.std.proofs.Common.{sym, ◌∙◌, ap, arith, length-append, length-set}
use Rattle.std.specs.Option.{option_or, option_map}
use Rattle.slices.specs.Lists.{over, sets_over}
use Rattle.mesh.specs.Tests.{verdict, and_then, size_tests, face_tests}
use Rattle.mesh.specs.Lent.{of_mesh, IsSameRoom}
use Rattle.mesh.specs.Verdict.{Verdict, Good}
use Rattle.mesh.specs.declared.Mesh.{Mesh}
use Rattle.mesh.specs.declared.MeshMut.{MeshMut}
use Rattle.mesh.specs.declared.Refusal.{Refusal}
use Rattle.spots.specs.Sections.{length-points, width_few}
use Rattle.spots.specs.Laid.{Laid, laid_then, bad_at, bad_within, bad_append}
use Rattle.spots.specs.declared.Points.{Points}
use Rattle.rule.specs.Flat.{flat, offsets_of, flat_append}
use Rattle.rule.specs.Wrote.{Room, room-first, room-second, wrote_then}
use Rattle.rule.specs.Output.{Put, RoomIn, put_as}
use Rattle.rule.specs.Sizes.{Sized}
use Rattle.rule.specs.declared.Bases.{Bases}
use Rattle.rule.specs.declared.Size.{Size}
use Rattle.rule.specs.declared.output.Output.{Output}
use Rattle.sections.specs.Lent.{section_on}
use Rattle.engine.specs.Answer.{Answer, stop_of}
use Rattle.engine.specs.Result.{room_tests, finite_tests, asked, outcome_of, counts_of, Fills}
use Rattle.engine.specs.ResultLaws.{fills_refused, fills_done}
use Rattle.engine.specs.Plan.{plan_bases, plan_faces, plan_coords, judged, plan_outcome}
use Rattle.engine.specs.Known.{admission, plan_verdict}
use Rattle.engine.specs.Work.{of_work, width_on, points_on, IsSize, front}
use Rattle.engine.specs.declared.Counts.{Counts}
use Rattle.engine.specs.declared.Plan.{Plan}
use Rattle.engine.specs.declared.work.Work.{Work}

module _ (w : Work) where
  -- ---- how large a section of points is, and all

  pub width_bound : (q : Points) → width_on w q ≤ 120000
  width_bound q = width_few q w.plan.mask w.masks.arities.now w.masks.numbers.now w.mesh.offsets.now w.mesh.corners.now w.mesh.coords.now w.mesh.ready

  pub points_long : (q : Points) → length (points_on w q) ≡ 3 * width_on w q
  points_long q = length-points q w.plan.ratio w.plan.height w.plan.mask w.masks.arities.now w.masks.numbers.now w.mesh.offsets.now w.mesh.corners.now w.mesh.coords.now

  pub coords_long : length (of_work plan_coords w) ≡ length (points_on w w.plan.olds) + (length (points_on w w.plan.first) + length (points_on w w.plan.second))
  unfolding plan_coords
  coords_long = simp length-append

  -- ---- the first coordinate that is not finite

  pub bad_few : (q : Points) (o : Option ℕ) → o ≡ bad_at (points_on w q) → IfSome o (λ i. i < 360000)
  bad_few q None e = tt
  bad_few q (Some i) e = let h : i < 360000 = omega (arith, bad_within (points_on w q) i e, points_long q, width_bound q) in h

  pub bad_at_all :
      bad_at (of_work plan_coords w) ≡ option_or (bad_at (points_on w w.plan.olds)) (option_map (λ i. 3 * width_on w w.plan.olds + i)
      (option_or (bad_at (points_on w w.plan.first)) (option_map (λ i. 3 * width_on w w.plan.first + i) (bad_at (points_on w w.plan.second)))))
  unfolding plan_coords
  bad_at_all = rw (← points_long w.plan.olds, ← points_long w.plan.first, bad_append, bad_append) refl

  -- ---- the points

  pub laid_all : (out out' out'' out''' : List Float) (i j k : ℕ) → length (of_work plan_coords w) ≤ length out →
      Laid out 0 (points_on w w.plan.olds) out' i → Laid out' i (points_on w w.plan.first) out'' j → Laid out'' j (points_on w w.plan.second) out''' k →
      out''' ≡ over (of_work plan_coords w) out
  unfolding plan_coords
  laid_all out out' out'' out''' i j k h y z q = (laid_then y (laid_then z q)).put ∙ sets_over out (of_work plan_coords w) h

  -- ---- the faces

  -- its sections of faces, with the masks as they are lent
  abbrev one : Bases → List (List ℕ)
  one bs = section_on w.plan.one w.masks w.mesh bs

  abbrev two : Bases → List (List ℕ)
  two bs = section_on w.plan.two w.masks w.mesh bs

  pub two_sections : (bs : Bases) → bs ≡ of_work plan_bases w → one bs ++ two bs ≡ of_work plan_faces w
  unfolding plan_faces
  two_sections bs e = rw (e, w.masked) refl

  module _ (a : Output) (bs : Bases) (e : bs ≡ of_work plan_bases w) (r : RoomIn a (of_work plan_faces w)) where
    pub room_one : RoomIn a (one bs)
    room_one = room-first (one bs) (two bs) (rw (two_sections bs e) r)

    pub room_two : (b : Output) → Put a (one bs) b → RoomIn b (two bs)
    room_two b p = room-second (one bs) (two bs) (rw (two_sections bs e) r) p.wrote

    pub put_both : (b c : Output) → Put a (one bs) b → Put b (two bs) c → Put a (of_work plan_faces w) c
    put_both b c p q =
        put_as (sym (two_sections bs e))
        (record { wrote = wrote_then p.wrote q.wrote; same-offsets = q.same-offsets ∙ p.same-offsets; same-corners = q.same-corners ∙ p.same-corners })

  -- ---- its size

  pub size_is :
      (s t : Size) (n : ℕ) → Sized w.plan.one w.masks.mask w.masks.arities.now w.masks.numbers.now w.mesh.offsets.now w.mesh.corners.now w.mesh.coords.now s →
      Sized w.plan.two w.masks.mask w.masks.arities.now w.masks.numbers.now w.mesh.offsets.now w.mesh.corners.now w.mesh.coords.now t → n ≡ length (of_work plan_coords w) →
      IsSize w (record { faces = s.faces + t.faces; corners = s.corners + t.corners; coords = n })
  size_is s t n y z e =
      let bs = of_work plan_bases w in
      let q = two_sections bs refl in
      record {
        faces = omega (arith, y.faces bs, z.faces bs, length-append (one bs) (two bs), ap length q);
        corners = omega (arith, y.corners bs, z.corners bs, length-append (flat (one bs)) (flat (two bs)), ap length (flat_append (one bs) (two bs)), ap (λ (fs : List (List ℕ)). length (flat fs)) q);
        coords = e;
      }

-- ---- a whole result

-- a leading offset takes no room
pub room_front : (o k : List ℕ) (fs : List (List ℕ)) → Room o k front fs → Room (set o 0 0) k front fs
room_front o k fs r = let z : length (set o 0 0) ≡ length o = length-set o 0 0 in record { offs-room = omega (arith, r.offs-room); cors-room = r.cors-room; cors-fit = r.cors-fit }

-- ---- a call

and_then_assoc : (u v w : Verdict) → and_then (and_then u v) w ≡ and_then u (and_then v w)
and_then_assoc (Ok _) v w = refl
and_then_assoc (Err r) v w = refl

pub refused_by : {r : Refusal} {v : Verdict} → Err r ≡ v → (w : Verdict) → Err r ≡ and_then v w
refused_by e w = rw (← e) refl

module _ (p : Plan) (a b : List ℕ) (m : Mesh) (own : Verdict) (old : MeshMut) where
  abbrev fs : List (List ℕ)
  fs = of_mesh (plan_faces p a b) m

  abbrev xs : List Float
  xs = of_mesh (plan_coords p a b) m

  -- the verdict of the tests up to 11, of 12 and 13, and of 14
  abbrev before : Verdict
  before = of_mesh (admission p.asks own) m

  abbrev room : Verdict
  room = verdict (room_tests (length fs) (length (flat fs)) (length xs) (length old.offsets.now) (length old.corners.now) (length old.coords.now))

  abbrev last : Verdict
  last = verdict (finite_tests xs)

  -- the whole table in the order of the code
  pub in_order : of_mesh (plan_verdict p a b) m own (length old.offsets.now) (length old.corners.now) (length old.coords.now) ≡ and_then before (and_then room last)
  unfolding judged
  in_order =
      let S = verdict (size_tests m.offsets.now (length m.corners.now) (length m.coords.now)) in
      let F = verdict (face_tests m.offsets.now m.corners.now m.coords.now) in
      let A = verdict (asked p.asks m.offsets.now m.corners.now m.coords.now) in
      let W = and_then room last in
      sym (and_then_assoc S (and_then own (and_then F A)) W ∙ ap (and_then S) (and_then_assoc own (and_then F A) W ∙ ap (and_then own) (and_then_assoc F A W)))

  by_parts : (v : Verdict) → v ≡ and_then before (and_then room last) →
      of_mesh (plan_outcome p a b) m own (length old.offsets.now) (length old.corners.now) (length old.coords.now) ≡ outcome_of v fs xs
  unfolding plan_outcome
  by_parts v e = ap (λ (v : Verdict). outcome_of v fs xs) (in_order ∙ sym e)

  pub run_refused : (r : Refusal) (x : Answer) → Err r ≡ and_then before (and_then room last) → IsErrAnd x (λ s. s ≡ stop_of r) → Fills (of_mesh (plan_outcome p a b) m own) old x old
  run_refused r x e f = fills_refused (of_mesh (plan_outcome p a b) m own) old r x (by_parts (Err r) e) f

  pub run_done :
      (new : MeshMut) (c : Counts) → Good ≡ and_then before (and_then room last) → c ≡ counts_of fs xs →
      new.offsets.now ≡ over (offsets_of fs) old.offsets.now → new.corners.now ≡ over (flat fs) old.corners.now → new.coords.now ≡ over xs old.coords.now →
      IsSameRoom old new → Fills (of_mesh (plan_outcome p a b) m own) old (Ok c) new
  run_done new c e f g h i s = fills_done (of_mesh (plan_outcome p a b) m own) old new fs xs c (by_parts Good e) f g h i s
