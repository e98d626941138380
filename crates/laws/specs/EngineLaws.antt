-- Laws of plans that no proof of its crate calls: a plan's result from its parts, one by one, and a call from the verdict. Assumes nothing.
use Rattle.std.specs.Prelude.{◌≡◌, refl, Bool, true, false, List, [], ◌++◌, ℕ, ◌+◌, ◌*◌, ◌/◌, ◌<◌, ◌≤◌, length, set, Option, Some, None, Float}
use Rattle.std.proofs.Common.{sym, ◌∙◌, ap, subst, arith, length-append, length-set}
use Rattle.std.specs.Option.{option_map}
use mathlib.Core.List.{append_assoc}
use Rattle.slices.specs.First.{first, first-is, lowest_at, lowest_past, found_at, found_none}
use Rattle.slices.specs.Lists.{over, sets_over}
use Rattle.point.specs.Finite.{not_finite, first_bad}
use Rattle.mesh.specs.Tests.{verdict, and_then, both-good, size_tests, face_tests}
use Rattle.mesh.specs.Verdict.{Verdict, Good, Bad}
use Rattle.picks.specs.Ready.{Ready}
use Rattle.spots.specs.Points.{width_of}
use Rattle.spots.specs.Laid.{Laid, laid_then, laid-long, bad_at, bad_append}
use Rattle.spots.specs.Sections.{length-points, width_few}
use Rattle.spots.specs.declared.Points.{Points}
use Rattle.rule.specs.Flat.{flat, offsets_of, flat_append}
use Rattle.rule.specs.Slots.{Low}
use Rattle.rule.specs.Wrote.{Wrote, Room, room-first, room-second, wrote_then, wrote-whole}
use Rattle.rule.specs.Sizes.{Sized}
use Rattle.rule.specs.declared.At.{At}
use Rattle.rule.specs.declared.Bases.{Bases}
use Rattle.rule.specs.declared.Size.{Size}
use Rattle.engine.specs.Answer.{Answer, Done}
use Rattle.engine.specs.Result.{asked, room_tests, finite_tests, Came}
use Rattle.engine.specs.ResultLaws.{room-good}
use Rattle.engine.specs.Plan.{is_pairs, is_middles, is_corners, is_faces, begins, plan_bases, plan_faces, plan_coords, judged, plan_outcome}
use Rattle.engine.specs.Known.{known, plan_verdict}
use Rattle.engine.specs.Laws.{coords-by}
use Rattle.engine.specs.Work.{front}
use Rattle.engine.specs.declared.work.Sizes.{Sizes}
use Rattle.engine.specs.declared.Plan.{Plan}
use Rattle.laws.specs.EngineKnown.{refusal_of, points, section, plan_room, Measured, Passed}

-- ---- the first coordinate that is not finite

bad_le : (l : List Float) (j : ℕ) → j ≡ first_bad l → j ≤ length l
bad_le l j e = let w = (first-is (not_finite l) (length l)).within in omega arith

nothing_bad : 0 ≡ first_bad []
unfolding first
nothing_bad = refl

-- it as a number and as an answer
some_bad : (l : List Float) (i : ℕ) → i ≡ first_bad l → i < length l → Some i ≡ bad_at l
some_bad l i e h =
    let f = first-is (not_finite l) (length l) in
    rw e (lowest_at {p = not_finite l} (record { within = f.within; below = f.below }) (rw e at h) (f.holds (rw e at h)))

no_bad : (l : List Float) → length l ≤ first_bad l → None ≡ bad_at l
no_bad l h =
    let f = first-is (not_finite l) (length l) in
    lowest_past {p = not_finite l} (record { within = f.within; below = f.below }) h

-- a section after coordinates of which the first that is not finite was found, or none
pub bad-found : (l m : List Float) (n i : ℕ) → n ≡ length l → i ≡ first_bad l → i < n → i ≡ first_bad (l ++ m)
bad-found l m n i e f h =
    let s = some_bad l i f (rw e at h) in
    let q : Some i ≡ bad_at (l ++ m) = rw (bad_append l m, ← s) refl in
    (found_at q refl).first

pub bad-on : (l m : List Float) (n i j : ℕ) → n ≡ length l → i ≡ first_bad l → n ≤ i → j ≡ first_bad m → n + j ≡ first_bad (l ++ m)
bad-on l m n i j e f h g =
    let c : length l ≤ first_bad l = rw (e, f) at h in
    let q : bad_at (l ++ m) ≡ option_map (λ k. length l + k) (bad_at m) = rw (bad_append l m, ← no_bad l c) refl in
    rw (e, g) (go (bad_at m) refl q)
  where
    go : (o : Option ℕ) → o ≡ bad_at m → bad_at (l ++ m) ≡ option_map (λ k. length l + k) o → length l + first_bad m ≡ first_bad (l ++ m)
    go None s q = let a = (found_none s refl).first in let b = (found_none (sym q) refl).first in omega (arith, length-append l m)
    go (Some k) s q = let a = (found_at s refl).first in let b = (found_at (sym q) refl).first in omega arith

-- a leading offset takes no room
pub zeroed : (oo oc : List ℕ) (v : ℕ) (gs : List (List ℕ)) → Room oo oc front gs → Room (set oo 0 v) oc front gs
zeroed oo oc v gs r =
    let z : length (set oo 0 v) ≡ length oo = length-set oo 0 v in
    record { offs-room = omega (arith, r.offs-room); cors-room = r.cors-room; cors-fit = r.cors-fit }

module _ (p : Plan) (a b o k : List ℕ) (x : List Float) where
  -- its sections of points, how many points one has, its sections of faces, and its result
  abbrev A : List Float
  A = points p a b o k x p.olds

  abbrev B : List Float
  B = points p a b o k x p.first

  abbrev C : List Float
  C = points p a b o k x p.second

  abbrev wide : Points → ℕ
  wide q = width_of q p.mask a b o k x

  abbrev one : Bases → List (List ℕ)
  one bs = section p a b o k x p.one bs

  abbrev two : Bases → List (List ℕ)
  two bs = section p a b o k x p.two bs

  abbrev bases : Bases
  bases = plan_bases p a b o k x

  abbrev fs : List (List ℕ)
  fs = plan_faces p a b o k x

  abbrev xs : List Float
  xs = plan_coords p a b o k x

  -- ---- sizes

  long : (q : Points) (w : ℕ) → w ≡ wide q → length (points p a b o k x q) ≡ 3 * w
  long q w e = length-points q p.ratio p.height p.mask a b o k x ∙ ap (λ (i : ℕ). 3 * i) (sym e)

  pub few : (q : Points) (w : ℕ) → Ready o k x → w ≡ wide q → w ≤ 120000
  few q w r e = let h = width_few q p.mask a b o k x r in omega arith

  pub coords-few : Ready o k x → length xs ≤ 1080000
  coords-few r = omega (arith, coords-by p a b o k x _ _ _ refl refl refl, few p.olds _ r refl, few p.first _ r refl, few p.second _ r refl)

  pub bad-few : (q : Points) (j : ℕ) → Ready o k x → j ≡ first_bad (points p a b o k x q) → j ≤ 360000
  bad-few q j r e = omega (arith, bad_le (points p a b o k x q) j e, long q _ refl, few q _ r refl)

  pub measured :
      (s t : Size) (n : ℕ) → Sized p.one p.mask a b o k x s → Sized p.two p.mask a b o k x t → n ≡ length xs →
      Measured p a b o k x (record { faces = s.faces + t.faces; corners = s.corners + t.corners; coords = n })
  unfolding plan_faces
  measured s t n y z e =
      let bs = bases in
      let l = length-append (one bs) (two bs) in
      let m = length-append (flat (one bs)) (flat (two bs)) in
      let f = ap length (flat_append (one bs) (two bs)) in
      record { faces = omega (arith, y.faces bs, z.faces bs); corners = omega (arith, y.corners bs, z.corners bs); coords = e }

  -- ---- 12 to 14

  pub room_by : (s : Sizes) (lo lc lx : ℕ) (r : Verdict) → Measured p a b o k x s → r ≡ verdict (room_tests s.faces s.corners s.coords lo lc lx) → r ≡ verdict (plan_room p a b o k x lo lc lx)
  room_by s lo lc lx r m e = rw (← m.faces, ← m.corners, ← m.coords) e

  -- the first of all sections that is not finite, from those of each
  pub bad-all :
      (u v i j r : ℕ) → u ≡ wide p.olds → v ≡ wide p.first →
      ((l : List Float) → 0 ≡ length l → 0 ≡ first_bad l → i ≡ first_bad (l ++ A)) →
      ((l : List Float) → 3 * u ≡ length l → i ≡ first_bad l → j ≡ first_bad (l ++ B)) →
      ((l : List Float) → 3 * u + 3 * v ≡ length l → j ≡ first_bad l → r ≡ first_bad (l ++ C)) →
      r ≡ first_bad xs
  unfolding plan_coords
  bad-all u v i j r d e f g h =
      let m = length-append A B in
      let n : i ≡ first_bad A = f [] refl nothing_bad in
      h (A ++ B) (omega (arith, long p.olds u d, long p.first v e)) (g A (sym (long p.olds u d)) n)
      ∙ ap first_bad (append_assoc A B C)

  -- ---- the points

  pub room-olds : (out : List Float) → length xs ≤ length out → 3 * 0 + length A ≤ length out
  unfolding plan_coords
  room-olds out h = let l = length-append A (B ++ C) in omega arith

  pub room_next :
      (out out' : List Float) (v : ℕ) → length xs ≤ length out → Laid out 0 A out' v → 3 * v + length B ≤ length out'
  unfolding plan_coords
  room_next out out' v h w =
      let l = length-append A (B ++ C) in
      let m = length-append B C in
      omega (arith, laid-long A w, w.at)

  pub room-last :
      (out out' out'' : List Float) (v w : ℕ) → length xs ≤ length out → Laid out 0 A out' v → Laid out' v B out'' w →
      3 * w + length C ≤ length out''
  unfolding plan_coords
  room-last out out' out'' v w h y z =
      let l = length-append A (B ++ C) in
      let m = length-append B C in
      omega (arith, laid-long A y, y.at, laid-long B z, z.at)

  pub laid-all :
      (out out' out'' out''' : List Float) (v w n : ℕ) → length xs ≤ length out →
      Laid out 0 A out' v → Laid out' v B out'' w → Laid out'' w C out''' n → out''' ≡ over xs out
  unfolding plan_coords
  laid-all out out' out'' out''' v w n h y z q =
      (laid_then y (laid_then z q)).put ∙ sets_over out (A ++ (B ++ C)) h

  -- ---- the new vertices

  pub bases-by :
      (v w d e c f : ℕ) → v ≡ wide p.olds → w ≡ wide p.first →
      d ≡ begins (is_pairs p.first) (is_pairs p.second) v w → e ≡ begins (is_middles p.first) (is_middles p.second) v w →
      c ≡ begins (is_corners p.first) (is_corners p.second) v w → f ≡ begins (is_faces p.first) (is_faces p.second) v w →
      ◌≡◌ {A = Bases} (record { dir = d; edge = e; cor = c; face = f }) bases
  unfolding plan_bases
  bases-by v w d e c f g h i j l m = rw (i, j, l, m, g, h) refl

  low : (s t : Bool) (v w : ℕ) → v ≤ 120000 → w ≤ 120000 → begins s t v w ≤ 400000
  low true t v w g h = omega arith
  low false true v w g h = omega arith
  low false false v w g h = omega arith

  pub bases-low : Ready o k x → (bs : Bases) → bs ≡ bases → Low bs
  unfolding plan_bases
  bases-low r bs e =
      let v = few p.olds _ r refl in
      let w = few p.first _ r refl in
      rw e
      (record {
        dir-under = low (is_pairs p.first) (is_pairs p.second) _ _ v w;
        edge-under = low (is_middles p.first) (is_middles p.second) _ _ v w;
        cor-under = low (is_corners p.first) (is_corners p.second) _ _ v w;
        face-under = low (is_faces p.first) (is_faces p.second) _ _ v w;
      })

  -- ---- the faces

  two-sections : (bs : Bases) → bs ≡ bases → one bs ++ two bs ≡ fs
  unfolding plan_faces
  two-sections bs e = ap (λ (c : Bases). one c ++ two c) e

  pub room-one : (oo oc : List ℕ) (bs : Bases) → bs ≡ bases → Room oo oc front fs → Room oo oc front (one bs)
  room-one oo oc bs e r = room-first (one bs) (two bs) (subst (Room oo oc front) (sym (two-sections bs e)) r)

  pub room-two :
      (oo oc oo' oc' : List ℕ) (c : At) (bs : Bases) → bs ≡ bases → Room oo oc front fs → Wrote (set oo 0 0) oc front (one bs) oo' oc' c → Room oo' oc' c (two bs)
  room-two oo oc oo' oc' c bs e r w = room-second (one bs) (two bs) (zeroed oo oc 0 (one bs ++ two bs) (subst (Room oo oc front) (sym (two-sections bs e)) r)) w

  pub wrote-both :
      (oo oc oo' oc' oo'' oc'' : List ℕ) (c d : At) (bs : Bases) → bs ≡ bases → Room oo oc front fs →
      Wrote (set oo 0 0) oc front (one bs) oo' oc' c → Wrote oo' oc' c (two bs) oo'' oc'' d →
      (oo'' ≡ over (offsets_of fs) oo) × (oc'' ≡ over (flat fs) oc)
  wrote-both oo oc oo' oc' oo'' oc'' c d bs e r y z =
      wrote-whole oo oc oo'' oc'' d fs (omega (arith, r.offs-room)) (omega (arith, r.cors-room))
      (subst (λ (fs : List (List ℕ)). Wrote (set oo 0 0) oc front fs oo'' oc'' d) (two-sections bs e) (wrote_then y z))

  -- ---- a call

  pub passed-by : (own v : Verdict) (lo lc lx : ℕ) → v ≡ plan_verdict p a b o k x own lo lc lx → v ≡ Good → Passed p a b o k x lo lc lx
  unfolding judged
  passed-by own v lo lc lx q g =
      let last = and_then (verdict (plan_room p a b o k x lo lc lx)) (verdict (finite_tests xs)) in
      let c = both-good (verdict (size_tests o (length k) (length x))) (and_then own (and_then (verdict (face_tests o k x)) (and_then (verdict (asked p.asks o k x)) last))) (sym q ∙ g) in
      let d = both-good own (and_then (verdict (face_tests o k x)) (and_then (verdict (asked p.asks o k x)) last)) c.1 in
      let e = both-good (verdict (face_tests o k x)) (and_then (verdict (asked p.asks o k x)) last) d.1 in
      let f = both-good (verdict (asked p.asks o k x)) last e.1 in
      let h = both-good (verdict (plan_room p a b o k x lo lc lx)) (verdict (finite_tests xs)) f.1 in
      record { known = known p.asks o k x c.0 e.0 f.0; room = room-good _ _ _ lo lc lx h.0 }

  pub room_in : (oo oc : List ℕ) (lx : ℕ) → Passed p a b o k x (length oo) (length oc) lx → Room oo oc front fs
  room_in oo oc lx q = let f = q.room in record { offs-room = omega (arith, f.faces-fit); cors-room = omega (arith, f.corners-fit); cors-fit = omega (arith, f.corners-low) }

  pub counted : (s : Sizes) (lo lc lx : ℕ) → Measured p a b o k x s → Passed p a b o k x lo lc lx → (s.faces ≤ 60000) × ((s.corners ≤ 60000) × (s.coords / 3 ≤ 60000))
  counted s lo lc lx m q = rw (m.faces, m.corners, m.coords) (q.room.faces-low, (q.room.corners-low, q.room.coords-low))

  pub came_refused :
      (own v : Verdict) (oo oc : List ℕ) (ox : List Float) {n l : ℕ} (r : Answer) → v ≡ plan_verdict p a b o k x own (length oo) (length oc) (length ox) → v ≡ Bad n l → r ≡ refusal_of v →
      Came (plan_outcome p a b o k x own (length oo) (length oc) (length ox)) oo oc ox r oo oc ox
  unfolding plan_outcome
  came_refused own v oo oc ox {n} {l} r e f g =
      let q : plan_verdict p a b o k x own (length oo) (length oc) (length ox) ≡ Bad n l = sym e ∙ f in
      rw q (record { answer = g ∙ ap refusal_of f; offsets = refl; corners = refl; coords = refl })

  pub came-done :
      (own v : Verdict) (s : Sizes) (oo oc : List ℕ) (ox : List Float) (r : Answer) (oo' oc' : List ℕ) (ox' : List Float) →
      v ≡ plan_verdict p a b o k x own (length oo) (length oc) (length ox) → v ≡ Good → Measured p a b o k x s → r ≡ Done (record { v = s.coords / 3; e = s.corners / 2; f = s.faces }) →
      (oo' ≡ over (offsets_of fs) oo) × (oc' ≡ over (flat fs) oc) → ox' ≡ over xs ox →
      Came (plan_outcome p a b o k x own (length oo) (length oc) (length ox)) oo oc ox r oo' oc' ox'
  unfolding plan_outcome
  came-done own v s oo oc ox r oo' oc' ox' e g m h w z =
      let q : plan_verdict p a b o k x own (length oo) (length oc) (length ox) ≡ Good = sym e ∙ g in
      rw q (record { answer = rw (m.faces, m.corners, m.coords) at h; offsets = w.0; corners = w.1; coords = z })
