-- What the tests 1, 2 and 5 leave known of a mesh, and the laws of faces and corners that follow.
-- Assumes nothing.
use Rattle.std.specs.Prelude.{ℕ, zero, suc, ◌+◌, ◌-◌, ◌/◌, ◌≤◌, ◌<◌, ◌≡◌, refl, Bool, true, false, cond, not, ◌||◌, List, length, eqb, Float}
use Rattle.std.proofs.Common.{zero-le, true≢false, ⊎_elim, arith, eq-or-lt_of_le, le_refl, le_trans, add-zero, add-suc, pos_of_ne-zero, lt_irrefl, le_of_eq, add-one, length-take, length-drop}
use Rattle.std.proofs.Math.Dec.{ltb}
use borrow.Author.Tests.{lt-ltb, le-ltb, ltb-true, ltb-false, eqb-true, eqb-false, not-false}
use Rattle.slices.specs.First.{first, any, found, nowhere}
use Rattle.mesh.specs.Mesh.{faces, start, end, arity, run, face_of, face_after, next, next_in}
use Rattle.mesh.specs.Tests.{falls, wrong_offsets, wrong_shape, too_many, limit, short, verdict, passed, size_tests, face_tests}
use Rattle.mesh.specs.Verdict.{Good}

-- offsets o over n corners
pub record Shaped (o : List ℕ) (n : ℕ) : Type 0 where
  pub some : 0 < length o
  pub from : start o 0 ≡ 0
  pub rises : (f : ℕ) → f < faces o → start o f ≤ end o f
  pub last : start o (faces o) ≡ n

pub record Limited (f n m : ℕ) : Type 0 where
  pub faces-fit : f ≤ limit
  pub corners-fit : n ≤ limit
  pub positions-fit : m / 3 ≤ limit

-- each face has three corners or more
abbrev pub Full : List ℕ → Type 0
Full o = (f : ℕ) → f < faces o → 3 ≤ arity o f

-- corner c is one of face f
pub record In (o : List ℕ) (f c : ℕ) : Type 0 where
  pub face : f < faces o
  pub from : start o f ≤ c
  pub to : c < end o f

-- c is of face f, unless it is past the last corner
abbrev pub At : List ℕ → ℕ → ℕ → ℕ → Type 0
At o n f c = c < n → In o f c

none_of : (a b c d : Bool) → a || b || c || d ≡ false → (a ≡ false) × ((b ≡ false) × ((c ≡ false) × (d ≡ false)))
none_of true b c d e = absurd (true≢false e)
none_of false true c d e = absurd (true≢false e)
none_of false false true d e = absurd (true≢false e)
none_of false false false d e = (refl, (refl, (refl, e)))

pub shaped : (o : List ℕ) (n : ℕ) → wrong_offsets o n ≡ false → Shaped o n
unfolding wrong_offsets
shaped o n e =
    let w = none_of (eqb (length o) 0) (not (eqb (start o 0) 0)) (any (falls o) (faces o)) (not (eqb (start o (faces o)) n)) e in
    record {
      some = pos_of_ne-zero (eqb-false _ _ w.0);
      from = eqb-true _ _ (not-false _ w.1.0);
      rises = λ f h. ltb-false _ _ (nowhere (falls o) (faces o) (ltb-false _ _ w.1.1.0) f h);
      last = eqb-true _ _ (not-false _ w.1.1.1);
    }

module _ (o : List ℕ) (n : ℕ) (s : Shaped o n) where
  climb : (f d : ℕ) → f + d ≤ faces o → start o f ≤ start o (f + d)
  climb f zero h = rw add-zero (le_refl _)
  climb f (suc d) h = le_trans (climb f d (omega arith)) (rw (add-suc, ← add-one) (s.rises (f + d) (omega arith)))

  pub mono : (f g : ℕ) → f ≤ g → g ≤ faces o → start o f ≤ start o g
  mono f g h l = let e : f + (g - f) ≡ g = omega arith in rw e at (climb f (g - f) (omega arith))

  pub end-le : (f : ℕ) → f < faces o → end o f ≤ n
  end-le f h = rw s.last at (mono (f + 1) (faces o) (omega arith) (le_refl _))

  pub face_of-at : (f c : ℕ) → In o f c → f ≡ face_of o c
  unfolding face_of
  face_of-at f c i =
      found (λ g. ltb c (end o g)) (faces o) f i.face
      (λ g h. le-ltb _ _ (le_trans (mono (g + 1) f (omega arith) (omega arith)) i.from))
      (lt-ltb _ _ i.to)

  pub next-at : (f c : ℕ) → In o f c → next o c ≡ next_in o f c
  unfolding next
  next-at f c i = rw (← face_of-at f c i)

  module _ (full : Full o) where
    pub at_first : At o n 0 0
    at_first h = ⊎_elim
        (λ e. absurd (lt_irrefl 0 (rw (← s.last, ← e, s.from) at h)))
        (λ l. record { face = l; from = le_of_eq s.from; to = let w = full 0 l in omega arith })
        (eq-or-lt_of_le {n = 0} {m = faces o} zero-le)

    step : (f c : ℕ) → In o f c → c + 1 < n → (b : Bool) → ltb (c + 1) (end o f) ≡ b → In o (cond b f (f + 1)) (c + 1)
    step f c i l true e = record { face = i.face; from = let w = i.from in omega arith; to = ltb-true _ _ e }
    step f c i l false e =
        let z : end o f ≤ c + 1 = ltb-false _ _ e in
        let h : f + 1 < faces o = ⊎_elim
        (λ q. absurd (lt_irrefl n (let w : end o f ≡ n = rw q s.last in omega arith)))
        (λ w. w)
        (eq-or-lt_of_le {n = f + 1} {m = faces o} (let w = i.face in omega arith)) in
        record { face = h; from = z; to = let w = i.to in let v = full (f + 1) h in omega arith }

    pub at_after : (f c : ℕ) → In o f c → At o n (face_after o f c) (c + 1)
    at_after f c i l = step f c i l (ltb (c + 1) (end o f)) refl

    -- and as the code has it
    pub at-then : (f c g : ℕ) → In o f c → g ≡ face_after o f c → At o n g (c + 1)
    at-then f c g i e = rw e (at_after f c i)

  pub in-lt : (f c : ℕ) → In o f c → c < n
  in-lt f c i = let w = end-le f i.face in let z = i.to in omega arith

  next-to : (f c : ℕ) → In o f c → (b : Bool) → ltb (c + 1) (end o f) ≡ b → cond b (c + 1) (start o f) < end o f
  next-to f c i true e = ltb-true _ _ e
  next-to f c i false e = let z = i.to in let w = i.from in omega arith

  pub next-lt : (f c : ℕ) → In o f c → next_in o f c < n
  next-lt f c i = let w = end-le f i.face in let z : next_in o f c < end o f = next-to f c i (ltb (c + 1) (end o f)) refl in omega arith

-- ---- the length of a run
pub length_run : (o k : List ℕ) → Shaped o (length k) → (f : ℕ) → f < faces o → length (run o k f) ≡ arity o f
length_run o k s f h = let w = end-le o (length k) s f h in let v = s.rises f h in simp (length-take, length-drop) (omega arith)

-- ---- what a test that is passed leaves known
pub passed-shape : (o : List ℕ) (n m : ℕ) → 2 ≤ first (wrong_shape o n m) 2 → Shaped o n
unfolding wrong_shape
passed-shape o n m h = shaped o n (nowhere (wrong_shape o n m) 2 h 0 (omega arith))

pub passed-limit : (f n m : ℕ) → 3 ≤ first (too_many f n m) 3 → Limited f n m
unfolding too_many
passed-limit f n m h =
    let w = nowhere (too_many f n m) 3 h in
    record {
      faces-fit = ltb-false _ _ (w 0 (omega arith));
      corners-fit = ltb-false _ _ (w 1 (omega arith));
      positions-fit = ltb-false _ _ (w 2 (omega arith));
    }

pub passed-short : (o : List ℕ) → faces o ≤ first (short o) (faces o) → Full o
passed-short o h f l = ltb-false _ _ (nowhere (short o) (faces o) h f l)

pub size-good : (o : List ℕ) (n m : ℕ) → verdict (size_tests o n m) ≡ Good → Shaped o n × Limited (faces o) n m
unfolding size_tests
size-good o n m e =
    let w = passed _ _ e in
    (passed-shape o n m w.0, passed-limit (faces o) n m (passed _ _ w.1).0)

pub face-good : (o k : List ℕ) (x : List Float) → verdict (face_tests o k x) ≡ Good → Full o
unfolding face_tests
face-good o k x e = passed-short o (passed _ _ (passed _ _ e).1).0

-- the corner after one of a known face
pub ruleset after_in = (next-at)
