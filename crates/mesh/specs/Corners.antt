-- The laws of a corner: its face, the corners before and after it. And what tests 8 and 9 leave known: each corner has one mate.
-- Assumes nothing.
use Rattle.std.specs.Prelude.{ℕ, zero, suc, ◌+◌, ◌-◌, ◌≤◌, ◌<◌, ◌≡◌, refl, Bool, true, false, cond, List, length}
use Rattle.std.proofs.Common.{zero-le, sym, eq-or-lt_of_le, le_refl, le_of_eq, not-suc-le-zero, not-le_of_lt, add-one}
use Rattle.std.proofs.Math.Logic.{⊎_elim}
use native.Mathlib.Omega.{arith}
use Rattle.std.proofs.Math.Dec.{ltb}
use borrow.Author.Tests.{lt-ltb, le-ltb, ltb-true, ltb-false, not-false}
use Rattle.slices.specs.First.{first, first-is, nowhere}
use Rattle.mesh.specs.Mesh.{faces, start, end, face_of, next, next_in, prev, prev_in, mate, turn, around}
use Rattle.mesh.specs.Tests.{alone, verdict, edge_tests, passed}
use Rattle.mesh.specs.Shape.{Shaped, In, face_of-at, next-at, in-lt}
use Rattle.mesh.specs.Verdict.{Good}

module _ (o : List ℕ) (n : ℕ) (s : Shaped o n) where
  ends-past : (c : ℕ) → ℕ → Bool
  ends-past c f = ltb c (end o f)

  -- the face that is found is one, and starts at or before c
  some-face : (c : ℕ) → c < n → 0 < faces o
  some-face c h = ⊎_elim
      (λ e. absurd (not-suc-le-zero (rw (← s.last, ← e, s.from) at h)))
      (λ l. l)
      (eq-or-lt_of_le {n = 0} {m = faces o} zero-le)

  starts : (c f : ℕ) → ((g : ℕ) → g < f → ltb c (end o g) ≡ false) → start o f ≤ c
  starts c zero h = rw s.from zero-le
  starts c (suc f) h = rw add-one at (ltb-false c (end o f) (h f (omega arith)))

  pub in-face : (c : ℕ) → c < n → In o (face_of o c) c
  unfolding face_of
  in-face c h =
      let i = first-is (λ g. ltb c (end o g)) (faces o) in
      let p = some-face c h in
      let l : first (λ g. ltb c (end o g)) (faces o) < faces o = ⊎_elim
      (λ e. absurd (not-le_of_lt h (let w : end o (faces o - 1) ≤ c = ltb-false _ _ (nowhere _ _ (le_of_eq (sym e)) (faces o - 1) (omega arith)) in let q : faces o - 1 + 1 ≡ faces o = omega arith in rw (← s.last, ← q) w)))
      (λ l. l)
      (eq-or-lt_of_le i.within) in
      record { face = l; from = starts c (first (λ g. ltb c (end o g)) (faces o)) i.below; to = ltb-true _ _ (i.holds l) }

  -- round a face
  prev-to : (f c : ℕ) → In o f c → (b : Bool) → ltb (start o f) c ≡ b → In o f (cond b (c - 1) (end o f - 1))
  prev-to f c i true e = let h = ltb-true (start o f) c e in let w = i.to in record { face = i.face; from = omega arith; to = omega arith }
  prev-to f c i false e = let w = i.to in let v = i.from in record { face = i.face; from = omega arith; to = omega arith }

  pub prev-in : (f c : ℕ) → In o f c → In o f (prev_in o f c)
  prev-in f c i = prev-to f c i (ltb (start o f) c) refl

  next-to : (f c : ℕ) → In o f c → (b : Bool) → ltb (c + 1) (end o f) ≡ b → In o f (cond b (c + 1) (start o f))
  next-to f c i true e = let h = ltb-true (c + 1) (end o f) e in let w = i.from in record { face = i.face; from = omega arith; to = omega arith }
  next-to f c i false e = let w = i.to in let v = i.from in record { face = i.face; from = le_refl _; to = omega arith }

  pub next-in : (f c : ℕ) → In o f c → In o f (next_in o f c)
  next-in f c i = next-to f c i (ltb (c + 1) (end o f)) refl

  pub prev-at : (f c : ℕ) → In o f c → prev o c ≡ prev_in o f c
  unfolding prev
  prev-at f c i = rw (← face_of-at o n s f c i)

  -- back and on again
  next-prev-in : (f c : ℕ) → In o f c → next_in o f (prev_in o f c) ≡ c
  next-prev-in f c i =
      let w : c < end o f = i.to in
      ⊎_elim
      (λ e. rw (le-ltb (start o f) c (le_of_eq (sym e)), le-ltb (end o f - 1 + 1) (end o f) (omega arith)) e)
      (λ l. let q : c - 1 + 1 ≡ c = omega arith in rw (lt-ltb (start o f) c l, q, lt-ltb c (end o f) w))
      (eq-or-lt_of_le i.from)

  prev-next-in : (f c : ℕ) → In o f c → prev_in o f (next_in o f c) ≡ c
  prev-next-in f c i =
      let w : start o f ≤ c = i.from in
      ⊎_elim
      (λ e. rw (le-ltb (c + 1) (end o f) (le_of_eq (sym e)), le-ltb (start o f) (start o f) (le_refl _)) (omega arith))
      (λ l. rw (lt-ltb (c + 1) (end o f) l, lt-ltb (start o f) (c + 1) (omega arith)) (omega arith))
      (eq-or-lt_of_le {n = c + 1} {m = end o f} (let z = i.to in omega arith))

  -- the laws without the face
  pub next-lt : (c : ℕ) → c < n → next o c < n
  next-lt c h = let i = in-face c h in rw (next-at o n s _ c i) (in-lt o n s _ _ (next-in _ c i))

  pub prev-lt : (c : ℕ) → c < n → prev o c < n
  prev-lt c h = let i = in-face c h in rw (prev-at _ c i) (in-lt o n s _ _ (prev-in _ c i))

  pub next-prev : (c : ℕ) → c < n → next o (prev o c) ≡ c
  next-prev c h = let i = in-face c h in rw (prev-at _ c i, next-at o n s _ _ (prev-in _ c i)) (next-prev-in _ c i)

  pub prev-next : (c : ℕ) → c < n → prev o (next o c) ≡ c
  prev-next c h = let i = in-face c h in rw (next-at o n s _ c i, prev-at _ _ (next-in _ c i)) (prev-next-in _ c i)

-- ---- each corner has its mate
abbrev pub Paired : List ℕ → List ℕ → Type 0
Paired o k = (c : ℕ) → c < length k → mate o k c < length k

pub edges-good : (o k : List ℕ) → verdict (edge_tests o k) ≡ Good → Paired o k
unfolding edge_tests
edges-good o k e c h =
    let w : alone o k c ≡ false = nowhere (alone o k) (length k) (passed _ _ (passed _ _ e).1).0 c h in
    ltb-true _ _ (not-false _ w)

-- ---- round a vertex
pub turn-lt : (o k : List ℕ) → Shaped o (length k) → Paired o k → (c : ℕ) → c < length k → turn o k c < length k
unfolding turn
turn-lt o k s p c h = p (prev o c) (prev-lt o (length k) s c h)

pub around-none : (o k : List ℕ) (c : ℕ) → c ≡ around o k c 0
unfolding around
around-none o k c = refl

pub around-more : (o k : List ℕ) (c j : ℕ) → turn o k (around o k c j) ≡ around o k c (j + 1)
unfolding around
around-more o k c j = rw (add-one j)

-- the corners of a face have one face
pub face_of-next : (o : List ℕ) (n : ℕ) → Shaped o n → (c : ℕ) → c < n → face_of o (next o c) ≡ face_of o c
face_of-next o n s c h =
    let i = in-face o n s c h in
    sym (face_of-at o n s _ _ (rw (next-at o n s _ c i) (next-in o n s _ c i)))

pub face_of-prev : (o : List ℕ) (n : ℕ) → Shaped o n → (c : ℕ) → c < n → face_of o (prev o c) ≡ face_of o c
face_of-prev o n s c h =
    let i = in-face o n s c h in
    sym (face_of-at o n s _ _ (rw (prev-at o n s _ c i) (prev-in o n s _ c i)))
