-- What the tests up to 9 leave known of a mesh in one record; ascending windows, and the rank of an edge among them.
-- Assumes nothing.
use Rattle.std.specs.Prelude.{ℕ, ◌+◌, ◌*◌, ◌/◌, ◌≤◌, ◌<◌, ◌≡◌, Bool, true, false, cond, List, length, get_or, ltb, Float}
use Rattle.std.proofs.Common.{arith, leb-false}
use Rattle.slices.specs.First.{count, count-le, nowhere}
use Rattle.mesh.specs.Mesh.{faces, face_of, next, prev, mate, window, ordered_of}
use Rattle.mesh.specs.Tests.{limit, outside, verdict, passed, size_tests, face_tests, edge_tests, tests, tests-good}
use Rattle.mesh.specs.Shape.{Shaped, In, Full, Limited, size-good, face-good}
use Rattle.mesh.specs.Corners.{Paired, in-face, next-lt, prev-lt, edges-good}
use Rattle.mesh.specs.Verdict.{Good}

-- a mesh that passes 1, 2 and 5, as far as its faces' corners need it
pub record Faced (o k : List ℕ) : Type 0 where
  pub shaped : Shaped o (length k)
  pub full : Full o
  pub few-faces : faces o ≤ limit
  pub few : length k ≤ limit

pub faced : (o k : List ℕ) (x : List Float) → verdict (size_tests o (length k) (length x)) ≡ Good → verdict (face_tests o k x) ≡ Good → Faced o k
faced o k x a b =
    let s = size-good o (length k) (length x) a in
    record { shaped = s.0; full = face-good o k x b; few-faces = s.1.faces-fit; few = s.1.corners-fit }

-- a mesh that passes 1, 2, 5 and 9, as far as an operator's faces need it
pub record Sound (o k : List ℕ) : Type 0 where
  pub shaped : Shaped o (length k)
  pub full : Full o
  pub paired : Paired o k
  pub few-faces : faces o ≤ limit
  pub few : length k ≤ limit

pub sound : (o k : List ℕ) (x : List Float) → verdict (size_tests o (length k) (length x)) ≡ Good → verdict (face_tests o k x) ≡ Good → verdict (edge_tests o k) ≡ Good → Sound o k
sound o k x a b c =
    let f = faced o k x a b in
    record { shaped = f.shaped; full = f.full; paired = edges-good o k c; few-faces = f.few-faces; few = f.few }

pub sound-faced : {o k : List ℕ} → Sound o k → Faced o k
sound-faced s = record { shaped = s.shaped; full = s.full; few-faces = s.few-faces; few = s.few }

pub tests-sound : (o k : List ℕ) (x : List Float) → verdict (tests o k x) ≡ Good → Sound o k × Limited (faces o) (length k) (length x)
tests-sound o k x e =
    let g = tests-good o k x e in
    (sound o k x g.0 g.1.0 g.1.1, (size-good o (length k) (length x) g.0).1)

-- test 6: each vertex number has its three coordinates
pub reached : (o k : List ℕ) (x : List Float) → verdict (face_tests o k x) ≡ Good → (c : ℕ) → c < length k → get_or k c 0 * 3 + 3 ≤ length x
unfolding face_tests
reached o k x e c h =
    let w : outside k (length x / 3) c ≡ false = nowhere (outside k (length x / 3)) (length k) (passed _ _ (passed _ _ (passed _ _ e).1).1).0 c h in
    let l : get_or k c 0 < length x / 3 = leb-false _ _ w in
    omega arith

-- the edge of c: its window, the smaller number first
abbrev pub edge : List ℕ → List ℕ → ℕ → List ℕ
edge o k c = ordered_of (window o k c)

-- the window of c ascends
unfoldable pub up : List ℕ → List ℕ → ℕ → Bool
up o k c = ltb (get_or k c 0) (get_or k (next o c) 0)

-- the number of an edge: its place among the windows that ascend
unfoldable pub rank : List ℕ → List ℕ → ℕ → ℕ
rank o k c = count (up o k) (cond (up o k c) c (mate o k c))

-- how many edges there are
abbrev pub edges : List ℕ → List ℕ → ℕ
edges o k = count (up o k) (length k)

module _ (o k : List ℕ) (s : Faced o k) where
  pub next-below : (c : ℕ) → c < length k → next o c < length k
  next-below c h = next-lt o (length k) s.shaped c h

  pub prev-below : (c : ℕ) → c < length k → prev o c < length k
  prev-below c h = prev-lt o (length k) s.shaped c h

  pub face-below : (c : ℕ) → c < length k → face_of o c < 60000
  face-below c h = let i = in-face o (length k) s.shaped c h in let f = i.face in let g = s.few-faces in omega arith

  pub in-own : (c f : ℕ) → c < length k → f ≡ face_of o c → In o f c
  in-own c f h e = rw e (in-face o (length k) s.shaped c h)

  pub edges_few : edges o k ≤ 60000
  edges_few = let w = count-le (up o k) (length k) in let z = s.few in omega arith

module _ (o k : List ℕ) (s : Sound o k) where
  rank-of : (c : ℕ) → c < length k → (b : Bool) → count (up o k) (cond b c (mate o k c)) ≤ 60000
  rank-of c h true = let w = count-le (up o k) c in let z = s.few in omega arith
  rank-of c h false = let w = count-le (up o k) (mate o k c) in let z = s.few in let m = s.paired c h in omega arith

  pub rank-few : (c : ℕ) → c < length k → rank o k c ≤ 60000
  unfolding rank
  rank-few c h = rank-of c h (up o k c)
