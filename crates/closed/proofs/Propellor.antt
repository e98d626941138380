-- Propellor keeps a mesh closed. Assumes nothing.
use Rattle.std.specs.Prelude.{◌≡◌, ℕ, ◌+◌, ◌*◌, ◌<◌, Float}
use Rattle.std.proofs.Math.Path.{refl, sym, ap}
use Rattle.std.proofs.Common.{◌∙◌, add_assoc, add-zero}
use mathlib.Core.List.Memᴰ.{head as here}
use mathlib.Core.List.Memᴰ.{not-nil}
use mathlib.Core.List.Memᴰ.{tail as there}
use mathlib.Core.List.{List, [], ◌∷◌, ◌++◌, Memᴰ as Mem}
use native.Mathlib.Omega.{arith}
use Rattle.std.proofs.Math.ListN.{length, get_or}
use Rattle.slices.specs.Lists.{each}
use Rattle.mesh.specs.Mesh.{faces, next, prev, mate}
use Rattle.mesh.specs.Edges.{edges}
use Rattle.rule.specs.Rule.{vertex_at, made, dir}
use Rattle.rule.specs.Named.{from, positions}
use Rattle.rule.specs.declared.Move.TheVariants.{Here}
use Rattle.closed.specs.Keeps.{Shell, Keeps}
use Rattle.closed.specs.Rules.{propellor_rule}
use Rattle.closed.specs.Faces.{propellor_faces}
use Rattle.closed.specs.Lists.{nd0, nd, nodup-nth, out}
use Rattle.closed.specs.Net.{dir_of, dir<, nx<, pv<, mt<, nx-pv, pv-nx, mt-st, mt-en, mt-mt, pv-inj, mt-inj, mt≢, mt≢nx, mt≢pv, pv≢, nx≢pv, twice}
use Rattle.closed.specs.Layout.{Round, drawn}
use Rattle.closed.specs.Rule.{Vtx, old, mid, top, slot_at, Fits, Rows, row, more, Same, apart_by, num, numbered, dirs-inj, dirs≢, old≢top}
use Rattle.closed.specs.Parts.{Chain, written, column, columns, rings, Sized, sized-append, sized-corner, sized-face}
use Rattle.closed.specs.Uniform.{Uniform, onward, shell-first, draw-first}

-- the corners of the new faces by the kinds of their edges' ends, each with its vertex, the next corner, and the corner across
pub data G : Type 0 where
  top-top old-top top-old : G

pub data X : Type 0 where
  turn back : X

abbrev pub Row : Type 0
Row = Rows G X

abbrev pub rows : List Row
rows = row old-top ∷ more turn ∷ more back ∷ row top-old ∷ []

abbrev pub nth : Row → ℕ
nth (row top-top) = 0
nth (row old-top) = 1
nth (more turn) = 2
nth (more back) = 3
nth (row top-old) = 4

unfoldable pub vr : List ℕ → List ℕ → Row → ℕ → Vtx
vr o k r c = slot_at mid o k (get_or (dir Here ∷ propellor_rule) (nth r) (dir Here)) c

unfoldable pub nr : List ℕ → Row → ℕ → Row × ℕ
nr o r c = onward o (row old-top) rows nth r c

unfoldable pub mr : List ℕ → List ℕ → Row → ℕ → Row × ℕ
mr o k (row top-top) c = (more back, next o c)
mr o k (row old-top) c = (row top-old, next o (mate o k c))
mr o k (more turn) c = (more turn, mate o k c)
mr o k (more back) c = (row top-top, prev o c)
mr o k (row top-old) c = (row old-top, mate o k (prev o c))

abbrev pub vx : List ℕ → List ℕ → Row × ℕ → Vtx
vx o k q = vr o k q.0 q.1

abbrev pub nk : List ℕ → Row × ℕ → Row × ℕ
nk o q = nr o q.0 q.1

abbrev pub mk : List ℕ → List ℕ → Row × ℕ → Row × ℕ
mk o k q = mr o k q.0 q.1

-- the kinds of the two ends
which : Vtx → Vtx → G
which (old i) y = old-top
which (mid i) y = old-top
which (top i) (old j) = top-old
which (top i) (mid j) = top-old
which (top i) (top j) = top-top

module _ (o k : List ℕ) (v : ℕ) (S : Shell o k v) where
  paired : (r : Row) (c : ℕ) → c < length k → ((mr o k r c).1 < length k) × (vx o k (mr o k r c) ≡ vx o k (nr o r c)) × (vx o k (nk o (mr o k r c)) ≡ vr o k r c)
  unfolding vr nr mr
  paired (row top-top) c h = (nx< S c h, refl, ap (λ z. top (dir_of o k z)) (pv-nx S c h))
  paired (row old-top) c h = let m = mt< S c h in (nx< S (mate o k c) m, ap (λ z. top (dir_of o k z)) (pv-nx S (mate o k c) m), ap old (mt-en S c h))
  paired (more turn) c h = (mt< S c h, ap (λ z. top (dir_of o k z)) (mt-mt S c h), refl)
  paired (more back) c h = (pv< S c h, refl, ap (λ z. top (dir_of o k z)) (nx-pv S c h))
  paired (row top-old) c h =
      let l = pv< S c h in
      (mt< S (prev o c) l, ap old (mt-st S (prev o c) l ∙ ap (λ z. get_or k z 0) (nx-pv S c h)), ap (λ z. top (dir_of o k z)) (mt-mt S (prev o c) l))

  fits : (r : Row) (c : ℕ) → c < length k → Fits v 0 (2 * edges o k) (vr o k r c)
  unfolding vr
  fits (row top-top) c h = dir< S c h
  fits (row old-top) c h = S.inside c h
  fits (more turn) c h = dir< S (mate o k c) (mt< S c h)
  fits (more back) c h = dir< S c h
  fits (row top-old) c h = dir< S (prev o c) (pv< S c h)

  which-row : (g : G) (c : ℕ) → which (vx o k (row g, c)) (vx o k (nk o (row g, c))) ≡ g
  unfolding which vr nr
  which-row top-top c = refl
  which-row old-top c = refl
  which-row top-old c = refl

  which-more : (x : X) (c : ℕ) → which (vx o k (more x, c)) (vx o k (nk o (more x, c))) ≡ top-top
  unfolding which vr nr
  which-more turn c = refl
  which-more back c = refl

  same : (g : G) (c d : ℕ) → c < length k → d < length k → Same (length k) (vx o k) (nk o) (row g, c) (row g, d) → c ≡ d
  unfolding vr nr
  same top-top c d h l p = dirs-inj S h l p.0
  same old-top c d h l p = mt-inj S h l (dirs-inj S (mt< S c h) (mt< S d l) p.1)
  same top-old c d h l p = pv-inj S h l (dirs-inj S (pv< S c h) (pv< S d l) p.0)

  same_more : (x y : X) (c d : ℕ) → c < length k → d < length k → Same (length k) (vx o k) (nk o) (more x, c) (more y, d) → ◌≡◌ {A = Row × ℕ} (more x, c) (more y, d)
  unfolding vr nr
  same_more turn turn c d h l p = let e = dirs-inj S h l p.1 in λ z. (more turn, e z)
  same_more turn back c d h l p = absurd (mt≢pv S d l (ap (mate o k) (sym (dirs-inj S (mt< S c h) l p.0)) ∙ mt-mt S c h ∙ dirs-inj S h (pv< S d l) p.1))
  same_more back turn c d h l p = absurd (mt≢pv S c h (ap (mate o k) (dirs-inj S h (mt< S d l) p.0) ∙ mt-mt S d l ∙ sym (dirs-inj S (pv< S c h) l p.1)))
  same_more back back c d h l p = let e = dirs-inj S h l p.0 in λ z. (more back, e z)

  clash : (x : X) (c d : ℕ) → c < length k → d < length k → Same (length k) (vx o k) (nk o) (row top-top, c) (more x, d) → ⊥
  unfolding vr nr
  clash turn c d h l p = mt≢nx S c h (ap (mate o k) (dirs-inj S h (mt< S d l) p.0) ∙ mt-mt S d l ∙ sym (dirs-inj S (nx< S c h) l p.1))
  clash back c d h l p = nx≢pv S d l (ap (next o) (sym (dirs-inj S h l p.0)) ∙ dirs-inj S (nx< S c h) (pv< S d l) p.1)

  round : (c : ℕ) → c < length k → Round (row top-top, 0) (vx o k) (nk o) (column rows c)
  unfolding vr nr Chain
  round c h =
      let m = mt< S c h in
      let l = pv< S c h in
      written (row top-top, 0) (vx o k) (nk o) _ _ (omega arith) (refl, (refl, (refl, refl)))
      (nd (out old≢top (out old≢top (out old≢top not-nil)))
      (nd (out (dirs≢ S m h (mt≢ S c h)) (out (dirs≢ S m l (mt≢pv S c h)) not-nil))
      (nd (out (dirs≢ S h l (λ e. pv≢ S c h (sym e))) not-nil)
      (nd not-nil nd0))))

  rows_all : (r : Row) → Mem r (row top-top ∷ rows)
  rows_all (row top-top) = here refl
  rows_all (row old-top) = there (here refl)
  rows_all (more turn) = there (there (here refl))
  rows_all (more back) = there (there (there (here refl)))
  rows_all (row top-old) = there (there (there (there (here refl))))

  uniform : Uniform o k v 0 (2 * edges o k) (row top-top) rows (vx o k) (nk o) (mk o k)
  unfolding each vr nr
  uniform = record {
    rows-once = nodup-nth nth (row top-top ∷ rows) 5 refl;
    rows_all = rows_all;
    inner-next = λ c. refl;
    inner-apart = λ c d h l e. dirs-inj S h l e;
    round = round;
    table = record {
      fits = λ q. fits q.0 q.1;
      apart = apart_by (length k) (vx o k) (nk o) which top-top (record { which-row = which-row; which-more = which-more; same = same; same_more = same_more; clash = clash });
      paired = λ q. paired q.0 q.1;
    };
  }

module _ (o k : List ℕ) (x : List Float) where
  propellor-drawn : propellor_faces o k x ≡ drawn (numbered (positions x) 0 (vx o k)) (rings o (row top-top) ++ columns rows (length k))
  unfolding propellor_faces made vertex_at vr num
  propellor-drawn = draw-first o k (from (positions x) 0 0 0) (dir Here) propellor_rule (numbered (positions x) 0 (vx o k)) (row top-top) rows (λ c. simp (add_assoc, add-zero)) (λ c h. simp (add_assoc, add-zero))

  pub propellor-keeps : Shell o k (positions x) → Keeps o k (positions x) (positions x + 2 * edges o k) (propellor_faces o k x) (5 * edges o k)
  unfolding propellor_faces
  propellor-keeps S =
      let w = twice S in
      let z : Sized (propellor_faces o k x) (faces o + length k) (length k + 4 * length k) = sized-append (sized-face o k _ (dir Here) S.surface.shaped) (sized-corner o k _ propellor_rule) in
      let e : positions x + 2 * edges o k ≡ positions x + 0 + 2 * edges o k = omega arith in
      record {
        shell = rw (propellor-drawn, e) (shell-first S (uniform o k (positions x) S));
        corners = z.corners ∙ omega arith;
        same = omega (arith, z.many);
      }
