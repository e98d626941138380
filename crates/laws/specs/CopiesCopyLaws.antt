-- Laws of copies that no proof of its crate calls: what a copy leaves known, and what it comes to, by the verdict alone. Assumes nothing.
use Rattle.std.specs.Prelude.{◌≡◌, refl, Ok, Err, List, [], ℕ, ◌-◌, ◌/◌, length, Float}
use Rattle.std.proofs.Common.{sym, ◌∙◌, ap, ap₂, arith}
use Rattle.std.proofs.lemmas.List.Edits.{sets}
use Rattle.slices.specs.Lists.{sets_over}
use Rattle.mesh.specs.Mesh.{faces, faces_of}
use Rattle.mesh.specs.Tests.{verdict, and_then, both-good, passed, pass, clear, size_tests, face_tests}
use Rattle.mesh.specs.Shape.{size-good}
use Rattle.mesh.specs.Verdict.{Verdict, Good, Bad}
use Rattle.rule.specs.Flat.{flat}
use Rattle.engine.specs.Answer.{Answer, Done}
use Rattle.engine.specs.Result.{Outcome, outcome, outcome_of, table, asked, room_tests, finite_tests, Came}
use Rattle.engine.specs.ResultLaws.{by-groups, room-good}
use Rattle.engine.specs.declared.Asks.TheVariants.{Open}
use Rattle.copies.specs.Copy.{copy_outcome}
use Rattle.copies.specs.CopyLaws.{copy_verdict, Copied as CopiedOf, flat-own, offsets-own, count-own}
use Rattle.laws.specs.EngineKnown.{refusal_of}

finite-known : (o k : List ℕ) (x : List Float) → verdict (face_tests o k x) ≡ Good → Good ≡ verdict (finite_tests x)
unfolding face_tests finite_tests
finite-known o k x e = pass _ _ _ refl (passed _ _ e).0 clear

then-good : (v w : Verdict) → w ≡ Good → and_then v w ≡ v
then-good (Ok _) w e = e
then-good (Err r) w e = refl

module _ (o k : List ℕ) (x : List Float) (lo lc lx : ℕ) where
  abbrev S : Verdict
  S = verdict (size_tests o (length k) (length x))

  abbrev F : Verdict
  F = verdict (face_tests o k x)

  abbrev R : Verdict
  R = verdict (room_tests (faces o) (length k) (length x) lo lc lx)

  abbrev R' : Verdict
  R' = verdict (room_tests (length (faces_of o k)) (length (flat (faces_of o k))) (length x) lo lc lx)

  rooms : S ≡ Good → F ≡ Good → and_then R' (verdict (finite_tests x)) ≡ R
  rooms e f =
      let s = (size-good o (length k) (length x) e).0 in
      then-good R' (verdict (finite_tests x)) (sym (finite-known o k x f))
      ∙ ap₂ (λ (i j : ℕ). verdict (room_tests i j (length x) lo lc lx)) (count-own o k s) (ap length (flat-own o k s))

  groups : (s f : Verdict) → S ≡ s → F ≡ f → and_then s (and_then f (and_then R' (verdict (finite_tests x)))) ≡ and_then s (and_then f R)
  groups (Ok _) (Ok _) e g = rooms e g
  groups (Ok _) (Err r) e g = refl
  groups (Err r) f e g = refl

  judged : verdict (table Open o k x [] (faces_of o k) x lo lc lx) ≡ copy_verdict o k x lo lc lx
  unfolding asked verdict
  judged = by-groups Open o k x [] (faces_of o k) x lo lc lx ∙ groups S F refl refl

  -- what a copy that is not refused leaves known
  abbrev Copied : Type 0
  Copied = CopiedOf o k x lo lc lx

  pub copied-by : (v : Verdict) → v ≡ copy_verdict o k x lo lc lx → v ≡ Good → Copied
  copied-by v e g =
      let w = both-good S (and_then F R) (sym e ∙ g) in
      record { shaped = (size-good o (length k) (length x) w.0).0; room = room-good _ _ _ _ _ _ (both-good F R w.1).1 }

-- ---- a call

module _ (o k : List ℕ) (x : List Float) (oo oc : List ℕ) (ox : List Float) where
  abbrev J : Verdict
  J = copy_verdict o k x (length oo) (length oc) (length ox)

  abbrev Q : Outcome
  Q = copy_outcome o k x (length oo) (length oc) (length ox)

  outcome-is : (v : Verdict) → v ≡ J → Q ≡ outcome_of v (faces_of o k) x
  unfolding copy_outcome outcome
  outcome-is v e = ap (λ (v : Verdict). outcome_of v (faces_of o k) x) (judged o k x (length oo) (length oc) (length ox) ∙ sym e)

  pub copy-refused : (v : Verdict) {n p : ℕ} (r : Answer) → v ≡ J → v ≡ Bad n p → r ≡ refusal_of v → Came Q oo oc ox r oo oc ox
  copy-refused v {n} {p} r e b a = rw (outcome-is v e, b) (record { answer = a ∙ ap refusal_of b; offsets = refl; corners = refl; coords = refl })

  pub copy_done :
      (v : Verdict) (r : Answer) (o' k' : List ℕ) (x' : List Float) → v ≡ J → v ≡ Good →
      r ≡ Done (record { v = length x / 3; e = length k / 2; f = length o - 1 }) →
      o' ≡ sets oo 0 o → k' ≡ sets oc 0 k → x' ≡ sets ox 0 x → Came Q oo oc ox r o' k' x'
  copy_done v r o' k' x' e g a b c d =
      let w = copied-by o k x (length oo) (length oc) (length ox) v e g in
      let s = w.shaped in
      let f = w.room in
      rw (outcome-is v e, g) (record {
        answer = rw (count-own o k s, flat-own o k s) a;
        offsets = rw (offsets-own o k s) (b ∙ sets_over oo o (omega (arith, s.some, f.faces-fit)));
        corners = rw (flat-own o k s) (c ∙ sets_over oc k f.corners-fit);
        coords = d ∙ sets_over ox x f.coords-fit;
      })
