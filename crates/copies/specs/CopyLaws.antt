-- A mesh is its own faces laid flat, and what a copy comes to, from the parts as the code has them. Assumes nothing.
use Rattle.std.specs.Prelude.{Ok, Err, IfOk, IsErrAnd, ◌≡◌, Float}
use Rattle.std.proofs.Math.Path.{refl, sym, ap, ap₂}
use Rattle.std.proofs.Common.{◌∙◌, le_refl, take-add, take-suc}
use mathlib.Core.List.{List, [], ◌∷◌, ◌++◌}
use Prim.Native.Nat.{ℕ, zero, suc, ◌+◌, ◌-◌, ◌/◌, ◌<◌, ◌≤◌}
use native.Mathlib.Omega.{arith}
use Rattle.std.proofs.Math.Numerals.{add-one}
use Rattle.std.proofs.Math.ListN.{length, get_or, take}
use Rattle.std.proofs.lemmas.List.Edits.{sets}
use Rattle.std.proofs.Math.Seq.{take-length, length-take-le}
use Rattle.slices.specs.Lists.{each, sets_over, length-each}
use Rattle.mesh.specs.Mesh.{faces, start, end, arity, run, faces_of}
use Rattle.mesh.specs.Tests.{verdict, and_then, passed, pass, clear, size_tests, face_tests}
use Rattle.mesh.specs.Shape.{Shaped, mono, length_run, size-good}
use Rattle.mesh.specs.Lent.{of_mesh, IsSameRoom}
use Rattle.mesh.specs.Verdict.{Verdict, Good}
use Rattle.mesh.specs.declared.Mesh.{Mesh}
use Rattle.mesh.specs.declared.MeshMut.{MeshMut}
use Rattle.mesh.specs.declared.Refusal.{Refusal}
use Rattle.rule.specs.Flat.{flat, ends, offsets_of, flat_append, flat-one, ends-append}
use Rattle.engine.specs.Result.{outcome, outcome_of, table, asked, room_tests, finite_tests, Fills}
use Rattle.engine.specs.ResultLaws.{by-groups, Fits, room-good, fills_refused, fills_done}
use Rattle.engine.specs.Answer.{Answer, stop_of}
use Rattle.engine.specs.declared.Counts.{Counts}
use Rattle.engine.specs.declared.Asks.TheVariants.{Open}
use Rattle.copies.specs.Copy.{copy_outcome}

-- ---- a mesh is its own faces

module _ (o k : List ℕ) (s : Shaped o (length k)) where
  abbrev upto : ℕ → List (List ℕ)
  upto n = each (λ f. run o k f ∷ []) n

  low : (n : ℕ) → n ≤ faces o → start o n ≤ length k
  low n h = let m : start o n ≤ start o (faces o) = mono o (length k) s n (faces o) h (le_refl _) in omega (arith, s.last)

  flat-upto : (n : ℕ) → n ≤ faces o → flat (upto n) ≡ take (start o n) k
  unfolding each flat
  flat-upto zero h = rw s.from refl
  flat-upto (suc n) h =
      let r : start o n ≤ end o n = s.rises n (omega arith) in
      let e : start o n + arity o n ≡ start o (suc n) = rw (← add-one n) (omega arith) in
      flat_append (upto n) (run o k n ∷ [])
      ∙ ap₂ (λ (u v : List ℕ). u ++ v) (flat-upto n (omega arith)) (flat-one (run o k n))
      ∙ sym (take-add (start o n) (arity o n) k)
      ∙ ap (λ (j : ℕ). take j k) e

  pub flat-own : flat (faces_of o k) ≡ k
  flat-own = flat-upto (faces o) (le_refl _) ∙ ap (λ (j : ℕ). take j k) s.last ∙ take-length k

  ends-upto : (n : ℕ) → n ≤ faces o → 0 ∷ ends 0 (upto n) ≡ take (suc n) o
  unfolding each ends
  ends-upto zero h = sym (take-suc o 0 0 s.some ∙ ap (λ (i : ℕ). i ∷ []) s.from)
  ends-upto (suc n) h =
      let g : n < faces o = omega arith in
      let r : start o n ≤ end o n = s.rises n g in
      let a : length (flat (upto n)) ≡ start o n = ap length (flat-upto n (omega arith)) ∙ length-take-le (start o n) k (low n (omega arith)) in
      let b : length (run o k n) ≡ arity o n = length_run o k s n g in
      let e : 0 + length (flat (upto n)) + length (run o k n) ≡ get_or o (suc n) 0 = rw (← add-one n) (omega arith) in
      ap (λ (l : List ℕ). 0 ∷ l) (ends-append 0 (upto n) (run o k n ∷ []))
      ∙ ap₂ (λ (l : List ℕ) (i : ℕ). l ++ (i ∷ [])) (ends-upto n (omega arith)) e
      ∙ sym (take-suc o (suc n) 0 (omega arith))

  pub offsets-own : offsets_of (faces_of o k) ≡ o
  unfolding offsets_of
  offsets-own =
      let e : suc (faces o) ≡ length o = omega (arith, s.some) in
      ends-upto (faces o) (le_refl _) ∙ ap (λ (j : ℕ). take j o) e ∙ take-length o

  pub count-own : length (faces_of o k) ≡ faces o
  count-own = length-each (λ f. run o k f ∷ []) 1 (faces o) (λ i. refl) ∙ omega arith

-- ---- the table of a copy

-- 1, 2, 4 to 7 and 13, as the code asks them
abbrev pub copy_verdict : List ℕ → List ℕ → List Float → ℕ → ℕ → ℕ → Verdict
copy_verdict o k x lo lc lx =
    and_then (verdict (size_tests o (length k) (length x))) (and_then (verdict (face_tests o k x)) (verdict (room_tests (faces o) (length k) (length x) lo lc lx)))

finite-known : (o k : List ℕ) (x : List Float) → verdict (face_tests o k x) ≡ Good → Good ≡ verdict (finite_tests x)
unfolding face_tests finite_tests
finite-known o k x e = pass _ _ _ refl (passed _ _ e).0 clear

then-good : (v w : Verdict) → w ≡ Good → and_then v w ≡ v
then-good (Ok _) w e = e
then-good (Err r) w e = refl

module _ (o k : List ℕ) (x : List Float) (lo lc lx : ℕ) where
  abbrev S : Verdict
  S = verdict (size_tests o (length k) (length x))

  abbrev F : Verdict
  F = verdict (face_tests o k x)

  abbrev R : Verdict
  R = verdict (room_tests (faces o) (length k) (length x) lo lc lx)

  abbrev R' : Verdict
  R' = verdict (room_tests (length (faces_of o k)) (length (flat (faces_of o k))) (length x) lo lc lx)

  rooms : S ≡ Good → F ≡ Good → and_then R' (verdict (finite_tests x)) ≡ R
  rooms e f =
      let s = (size-good o (length k) (length x) e).0 in
      then-good R' (verdict (finite_tests x)) (sym (finite-known o k x f))
      ∙ ap₂ (λ (i j : ℕ). verdict (room_tests i j (length x) lo lc lx)) (count-own o k s) (ap length (flat-own o k s))

  groups : (s f : Verdict) → S ≡ s → F ≡ f → and_then s (and_then f (and_then R' (verdict (finite_tests x)))) ≡ and_then s (and_then f R)
  groups (Ok _) (Ok _) e g = rooms e g
  groups (Ok _) (Err r) e g = refl
  groups (Err r) f e g = refl

  judged : verdict (table Open o k x [] (faces_of o k) x lo lc lx) ≡ copy_verdict o k x lo lc lx
  unfolding asked verdict
  judged = by-groups Open o k x [] (faces_of o k) x lo lc lx ∙ groups S F refl refl

  -- what a copy that is not refused leaves known
  pub record Copied : Type 0 where
    pub shaped : Shaped o (length k)
    pub room : Fits (faces o) (length k) (length x) lo lc lx

  pub copied : (v : Verdict) → Good ≡ S → v ≡ R → IfOk v (λ _. Copied)
  copied (Ok _) e f = record { shaped = (size-good o (length k) (length x) (sym e)).0; room = room-good _ _ _ _ _ _ (sym f) }
  copied (Err r) e f = tt

-- ---- a call

module _ (m : Mesh) (old : MeshMut) where
  abbrev o : List ℕ
  o = m.offsets.now

  abbrev k : List ℕ
  k = m.corners.now

  abbrev x : List Float
  x = m.coords.now

  abbrev J : Verdict
  J = copy_verdict o k x (length old.offsets.now) (length old.corners.now) (length old.coords.now)

  outcome-is : (v : Verdict) → v ≡ J → of_mesh copy_outcome m (length old.offsets.now) (length old.corners.now) (length old.coords.now) ≡ outcome_of v (faces_of o k) x
  unfolding copy_outcome outcome
  outcome-is v e = ap (λ (v : Verdict). outcome_of v (faces_of o k) x) (judged o k x (length old.offsets.now) (length old.corners.now) (length old.coords.now) ∙ sym e)

  pub copy_refused : (v : Verdict) (r : Refusal) (a : Answer) → v ≡ J → v ≡ Err r → IsErrAnd a (λ s. s ≡ stop_of r) → Fills (of_mesh copy_outcome m) old a old
  copy_refused v r a e f g = fills_refused (of_mesh copy_outcome m) old r a (outcome-is v e ∙ ap (λ (w : Verdict). outcome_of w (faces_of o k) x) f) g

  pub copy_done :
      (new : MeshMut) (v : Verdict) (c : Counts) → v ≡ J → v ≡ Good → Copied o k x (length old.offsets.now) (length old.corners.now) (length old.coords.now) →
      c ≡ record { v = length x / 3; e = length k / 2; f = length o - 1 } →
      new.offsets.now ≡ sets old.offsets.now 0 o → new.corners.now ≡ sets old.corners.now 0 k → new.coords.now ≡ sets old.coords.now 0 x →
      IsSameRoom old new → Fills (of_mesh copy_outcome m) old (Ok c) new
  copy_done new v c e f w g h i j s =
      let l = w.shaped in
      let r = w.room in
      fills_done (of_mesh copy_outcome m) old new (faces_of o k) x c (outcome-is v e ∙ ap (λ (u : Verdict). outcome_of u (faces_of o k) x) f)
      (rw (count-own o k l, flat-own o k l) g)
      (rw (offsets-own o k l) (h ∙ sets_over old.offsets.now o (omega (arith, l.some, r.faces-fit))))
      (rw (flat-own o k l) (i ∙ sets_over old.corners.now k r.corners-fit))
      (j ∙ sets_over old.coords.now x r.coords-fit)
      s
