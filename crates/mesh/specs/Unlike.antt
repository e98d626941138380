-- What test 7 leaves known: a face has a vertex once. So the corners of a vertex, which test 10 counts, are as many as its faces.
-- Assumes nothing.
use Prim.Native.Nat.{ℕ, zero, suc, ◌+◌, ◌-◌, ◌≤◌, ◌<◌}
use Rattle.std.specs.Prelude.{◌≡◌, Bool, true, false, cond, List, length, get_or}
use Rattle.std.proofs.Common.{sym, ◌∙◌, ap, true≢false, ⊎_elim, arith, le_refl, lt_of_le_of_lt, le_antisymm, le_of_suc-le-suc, lt_of_not-le, get_or-take, get_or-drop, lt-ltb, le-ltb, ltb-false, eqb-true, eq-eqb}
use Rattle.std.proofs.Math.Numerals.{add-one}
use Rattle.slices.specs.First.{any, count, is_at, nowhere, at-or-before, lt-or-le}
use Rattle.mesh.specs.Mesh.{faces, start, end, arity, run, face_of, next, next_in}
use Rattle.mesh.specs.Tests.{seen, repeats, faces_at}
use Rattle.mesh.specs.Shape.{Shaped, In, Full, length_run, next-at}
use Rattle.mesh.specs.Corners.{in-face, next-in, next-lt, face_of-next}
use Rattle.mesh.specs.Count.{count-cong, count_add, count-any}
use Rattle.mesh.specs.Closed.{Surface}

-- a face has the vertex
abbrev pub has : List ℕ → List ℕ → ℕ → ℕ → Bool
has o k v f = any (is_at (run o k f) v) (length (run o k f))

twice : (l : List ℕ) (i j : ℕ) → i < j → get_or l i 0 ≡ get_or l j 0 → seen l j ≡ true
twice l i j h e = lt-ltb _ _ (lt_of_le_of_lt (at-or-before (is_at l (get_or l j 0)) j i (eq-eqb _ _ e)) h)

module _ (o k : List ℕ) (s : Shaped o (length k)) (v : ℕ) (unlike : (f : ℕ) → f < faces o → repeats o k f ≡ false) where
  in-run : (f : ℕ) → f < faces o → count (λ i. is_at k v (start o f + i)) (arity o f) ≡ cond (has o k v f) 1 0
  in-run f h =
      let l = length_run o k s f h in
      count-cong (λ i. is_at k v (start o f + i)) (is_at (run o k f) v) (arity o f) (λ i w. rw (get_or-take, get_or-drop)) ∙
      ap (count (is_at (run o k f) v)) (sym l) ∙ count-any (is_at (run o k f) v) (length (run o k f)) (λ i j a b p q.
      true≢false (sym (twice (run o k f) i j a (eqb-true _ _ p ∙ sym (eqb-true _ _ q))) ∙ nowhere (seen (run o k f)) (length (run o k f)) (ltb-false _ _ (unlike f h)) j b))

  upto : (f : ℕ) → f ≤ faces o → count (is_at k v) (start o f) ≡ count (has o k v) f
  unfolding count
  upto zero h = rw s.from
  upto (suc f) h =
      let w = s.rises f (omega arith) in
      let e : start o (suc f) ≡ start o f + arity o f = rw (← add-one f) (omega arith) in
      rw (e, count_add (is_at k v) (start o f) (arity o f), upto f (omega arith), in-run f (omega arith))

  pub faces-are-corners : faces_at k v ≡ count (has o k v) (faces o)
  faces-are-corners = rw s.last at (upto (faces o) (le_refl _))

-- ---- test 7 by corners: two corners of one face have different vertices
module _ (o k : List ℕ) (s : Shaped o (length k)) (f : ℕ) (unlike : repeats o k f ≡ false) where
  at_place : (c : ℕ) → In o f c → get_or (run o k f) (c - start o f) 0 ≡ get_or k c 0
  at_place c i =
      let a = i.from in
      let b = i.to in
      let w : c - start o f < arity o f = omega arith in
      let e : start o f + (c - start o f) ≡ c = omega arith in
      rw (get_or-take, get_or-drop, e)

  before : (c d : ℕ) → In o f c → In o f d → get_or k c 0 ≡ get_or k d 0 → c < d → ⊥
  before c d i j e l =
      let a = i.from in
      let b = j.to in
      let w = length_run o k s f j.face in
      true≢false (sym (twice (run o k f) (c - start o f) (d - start o f) (omega arith) (at_place c i ∙ e ∙ sym (at_place d j))) ∙
      nowhere (seen (run o k f)) (length (run o k f)) (ltb-false _ _ unlike) (d - start o f) (rw w (omega arith)))

  pub distinct : (c d : ℕ) → In o f c → In o f d → get_or k c 0 ≡ get_or k d 0 → c ≡ d
  distinct c d i j e =
      le_antisymm (le_of_suc-le-suc (lt_of_not-le (before d c j i (sym e)))) (le_of_suc-le-suc (lt_of_not-le (before c d i j e)))

pub apart : (o k : List ℕ) → Shaped o (length k) → ((f : ℕ) → f < faces o → repeats o k f ≡ false) → (c d : ℕ) → c < length k → d < length k → face_of o c ≡ face_of o d → get_or k c 0 ≡ get_or k d 0 → c ≡ d
apart o k s u c d hc hd e q =
    let i = in-face o _ s c hc in
    distinct o k s (face_of o c) (u _ i.face) c d i (rw (sym e) at (in-face o _ s d hd)) q

-- ---- tests 5 and 7: round a face
module _ (o : List ℕ) (n : ℕ) (s : Shaped o n) (full : Full o) where
  two-on-in : (f c : ℕ) → In o f c → next_in o f (next_in o f c) ≡ c → ⊥
  two-on-in f c i e =
      let a : 3 ≤ arity o f = full f i.face in
      let l : start o f ≤ c = i.from in
      let h : c < end o f = i.to in
      ⊎_elim
      (λ p. let e₁ : next_in o f (c + 1) ≡ c = rw (lt-ltb (c + 1) (end o f) p) at e in
      ⊎_elim
      (λ q. let z : c + 1 + 1 ≡ c = rw (lt-ltb (c + 1 + 1) (end o f) q) at e₁ in omega arith)
      (λ q. let z : start o f ≡ c = rw (le-ltb (c + 1 + 1) (end o f) q) at e₁ in omega arith)
      (lt-or-le (c + 1 + 1) (end o f)))
      (λ p. let e₁ : next_in o f (start o f) ≡ c = rw (le-ltb (c + 1) (end o f) p) at e in
      let z : start o f + 1 ≡ c = rw (lt-ltb (start o f + 1) (end o f) (omega arith)) at e₁ in omega arith)
      (lt-or-le (c + 1) (end o f))

  pub two-on : (c : ℕ) → c < n → next o (next o c) ≡ c → ⊥
  two-on c h e =
      let i = in-face o n s c h in
      two-on-in _ c i (rw (next-at o n s _ c i, next-at o n s _ _ (next-in o n s _ c i)) at e)

-- a window has two ends, and two on is a third vertex
module _ (o k : List ℕ) (w : Surface o k) where
  pub next-apart : (c : ℕ) → c < length k → next o c ≡ c → ⊥
  next-apart c h e = two-on o _ w.shaped w.full c h (ap (next o) e ∙ e)

  pub ends-apart : (c : ℕ) → c < length k → get_or k c 0 ≡ get_or k (next o c) 0 → ⊥
  ends-apart c h e =
      next-apart c h (sym (apart o k w.shaped w.unlike c (next o c) h (next-lt o _ w.shaped c h) (sym (face_of-next o _ w.shaped c h)) e))

  pub two-apart : (c : ℕ) → c < length k → get_or k c 0 ≡ get_or k (next o (next o c)) 0 → ⊥
  two-apart c h e =
      let a = next-lt o _ w.shaped c h in
      two-on o _ w.shaped w.full c h
      (sym (apart o k w.shaped w.unlike c (next o (next o c)) h (next-lt o _ w.shaped _ a) (sym (face_of-next o _ w.shaped _ a ∙ face_of-next o _ w.shaped c h)) e))
