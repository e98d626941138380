-- Quinto keeps a mesh closed. Assumes nothing.
use Rattle.std.specs.Prelude.{◌≡◌, ℕ, ◌+◌, ◌*◌, ◌<◌, Float}
use Rattle.std.proofs.Math.Path.{refl, ap}
use Rattle.std.proofs.Common.{sym, ◌∙◌, arith}
use mathlib.Core.List.Memᴰ.{head as here}
use mathlib.Core.List.Memᴰ.{not-nil}
use mathlib.Core.List.Memᴰ.{tail as there}
use mathlib.Core.List.{List, [], ◌∷◌, ◌++◌, Memᴰ as Mem}
use Rattle.std.proofs.Math.ListN.{length, get_or}
use Rattle.slices.specs.Lists.{each}
use Rattle.mesh.specs.Mesh.{faces, next, prev, mate}
use Rattle.mesh.specs.Edges.{rank, edges}
use Rattle.rule.specs.Rule.{vertex_at, made, cor}
use Rattle.rule.specs.Named.{positions}
use Rattle.rule.specs.declared.Move.TheVariants.{Here}
use Rattle.closed.specs.Keeps.{Shell, Keeps}
use Rattle.closed.specs.Rules.{quinto_rule}
use Rattle.closed.specs.Faces.{quinto_from, quinto_faces}
use Rattle.closed.specs.Lists.{nd0, nd, nodup-nth, out}
use Rattle.closed.specs.Net.{nx<, pv<, mt<, nx-pv, pv-nx, mt-st, mt-en, pv-inj, pv≢, nx≢pv, rk<, rk-mt, rk-st, rk-en, rk≢pv, twice}
use Rattle.closed.specs.Layout.{Round, drawn}
use Rattle.closed.specs.Rule.{Vtx, old, mid, top, slot_at, Fits, Rows, row, more, Same, apart_by, num, numbered, old-inj, mid-inj, top-inj, old≢mid, old≢top, mid≢top, top≢mid}
use Rattle.closed.specs.Parts.{Chain, written, column, columns, rings, Sized, sized-append, sized-corner, sized-face}
use Rattle.closed.specs.Uniform.{Uniform, onward, shell-first, draw-first}

-- the corners of the new faces by the kinds of their edges' ends, each with its vertex, the next corner, and the corner across
pub data G : Type 0 where
  top-top old-mid mid-top top-mid mid-old : G

pub data X : Type 0 where
  back : X

abbrev pub Row : Type 0
Row = Rows G X

abbrev pub rows : List Row
rows = row old-mid ∷ row mid-top ∷ more back ∷ row top-mid ∷ row mid-old ∷ []

abbrev pub nth : Row → ℕ
nth (row top-top) = 0
nth (row old-mid) = 1
nth (row mid-top) = 2
nth (more back) = 3
nth (row top-mid) = 4
nth (row mid-old) = 5

unfoldable pub vr : List ℕ → List ℕ → Row → ℕ → Vtx
vr o k r c = slot_at top o k (get_or (cor Here ∷ quinto_rule) (nth r) (cor Here)) c

unfoldable pub nr : List ℕ → Row → ℕ → Row × ℕ
nr o r c = onward o (row old-mid) rows nth r c

unfoldable pub mr : List ℕ → List ℕ → Row → ℕ → Row × ℕ
mr o k (row top-top) c = (more back, next o c)
mr o k (row old-mid) c = (row mid-old, next o (mate o k c))
mr o k (row mid-top) c = (row top-mid, next o c)
mr o k (more back) c = (row top-top, prev o c)
mr o k (row top-mid) c = (row mid-top, prev o c)
mr o k (row mid-old) c = (row old-mid, mate o k (prev o c))

abbrev pub vx : List ℕ → List ℕ → Row × ℕ → Vtx
vx o k q = vr o k q.0 q.1

abbrev pub nk : List ℕ → Row × ℕ → Row × ℕ
nk o q = nr o q.0 q.1

abbrev pub mk : List ℕ → List ℕ → Row × ℕ → Row × ℕ
mk o k q = mr o k q.0 q.1

-- the kinds of the two ends
which : Vtx → Vtx → G
which (old i) y = old-mid
which (mid i) (old j) = mid-old
which (mid i) (mid j) = mid-old
which (mid i) (top j) = mid-top
which (top i) (old j) = top-top
which (top i) (mid j) = top-mid
which (top i) (top j) = top-top

module _ (o k : List ℕ) (v : ℕ) (S : Shell o k v) where
  paired : (r : Row) (c : ℕ) → c < length k → ((mr o k r c).1 < length k) × (vx o k (mr o k r c) ≡ vx o k (nr o r c)) × (vx o k (nk o (mr o k r c)) ≡ vr o k r c)
  unfolding vr nr mr
  paired (row top-top) c h = (nx< S c h, refl, ap top (pv-nx S c h))
  paired (row old-mid) c h = let m = mt< S c h in (nx< S (mate o k c) m, ap mid (ap (rank o k) (pv-nx S (mate o k c) m) ∙ rk-mt S c h), ap old (mt-en S c h))
  paired (row mid-top) c h = (nx< S c h, ap top (pv-nx S c h), ap (λ z. mid (rank o k z)) (pv-nx S c h))
  paired (more back) c h = (pv< S c h, refl, ap top (nx-pv S c h))
  paired (row top-mid) c h = (pv< S c h, refl, refl)
  paired (row mid-old) c h =
      let l = pv< S c h in
      (mt< S (prev o c) l, ap old (mt-st S (prev o c) l ∙ ap (λ z. get_or k z 0) (nx-pv S c h)), ap mid (rk-mt S (prev o c) l))

  fits : (r : Row) (c : ℕ) → c < length k → Fits v (edges o k) (length k) (vr o k r c)
  unfolding vr
  fits (row top-top) c h = h
  fits (row old-mid) c h = S.inside c h
  fits (row mid-top) c h = rk< S c h
  fits (more back) c h = h
  fits (row top-mid) c h = pv< S c h
  fits (row mid-old) c h = rk< S (prev o c) (pv< S c h)

  which-row : (g : G) (c : ℕ) → which (vx o k (row g, c)) (vx o k (nk o (row g, c))) ≡ g
  unfolding which vr nr
  which-row top-top c = refl
  which-row old-mid c = refl
  which-row mid-top c = refl
  which-row top-mid c = refl
  which-row mid-old c = refl

  which-more : (x : X) (c : ℕ) → which (vx o k (more x, c)) (vx o k (nk o (more x, c))) ≡ top-top
  unfolding which vr nr
  which-more back c = refl

  same : (g : G) (c d : ℕ) → c < length k → d < length k → Same (length k) (vx o k) (nk o) (row g, c) (row g, d) → c ≡ d
  unfolding vr nr
  same top-top c d h l p = top-inj p.0
  same old-mid c d h l p = rk-st S h l (mid-inj p.1) (old-inj p.0)
  same mid-top c d h l p = top-inj p.1
  same top-mid c d h l p = pv-inj S h l (top-inj p.0)
  same mid-old c d h l p =
      pv-inj S h l (rk-en S (pv< S c h) (pv< S d l) (mid-inj p.0) (ap (λ z. get_or k z 0) (nx-pv S c h) ∙ old-inj p.1 ∙ ap (λ z. get_or k z 0) (sym (nx-pv S d l))))

  same_more : (x y : X) (c d : ℕ) → c < length k → d < length k → Same (length k) (vx o k) (nk o) (more x, c) (more y, d) → ◌≡◌ {A = Row × ℕ} (more x, c) (more y, d)
  unfolding vr nr
  same_more back back c d h l p = let e = top-inj p.0 in λ z. (more back, e z)

  clash : (x : X) (c d : ℕ) → c < length k → d < length k → Same (length k) (vx o k) (nk o) (row top-top, c) (more x, d) → ⊥
  unfolding vr nr
  clash back c d h l p = nx≢pv S d l (ap (next o) (sym (top-inj p.0)) ∙ top-inj p.1)

  round : (c : ℕ) → c < length k → Round (row top-top, 0) (vx o k) (nk o) (column rows c)
  unfolding vr nr Chain
  round c h =
      written (row top-top, 0) (vx o k) (nk o) _ _ (omega arith) (refl, (refl, (refl, (refl, refl))))
      (nd (out old≢mid (out old≢top (out old≢top (out old≢mid not-nil))))
      (nd (out mid≢top (out mid≢top (out (λ e. rk≢pv S c h (mid-inj e)) not-nil)))
      (nd (out (λ e. pv≢ S c h (sym (top-inj e))) (out top≢mid not-nil))
      (nd (out top≢mid not-nil)
      (nd not-nil nd0)))))

  rows_all : (r : Row) → Mem r (row top-top ∷ rows)
  rows_all (row top-top) = here refl
  rows_all (row old-mid) = there (here refl)
  rows_all (row mid-top) = there (there (here refl))
  rows_all (more back) = there (there (there (here refl)))
  rows_all (row top-mid) = there (there (there (there (here refl))))
  rows_all (row mid-old) = there (there (there (there (there (here refl)))))

  uniform : Uniform o k v (edges o k) (length k) (row top-top) rows (vx o k) (nk o) (mk o k)
  unfolding each vr nr
  uniform = record {
    rows-once = nodup-nth nth (row top-top ∷ rows) 6 refl;
    rows_all = rows_all;
    inner-next = λ c. refl;
    inner-apart = λ c d h l e. top-inj e;
    round = round;
    table = record {
      fits = λ q. fits q.0 q.1;
      apart = apart_by (length k) (vx o k) (nk o) which top-top (record { which-row = which-row; which-more = which-more; same = same; same_more = same_more; clash = clash });
      paired = λ q. paired q.0 q.1;
    };
  }

module _ (o k : List ℕ) (x : List Float) where
  quinto-drawn : quinto_faces o k x ≡ drawn (numbered (positions x) (edges o k) (vx o k)) (rings o (row top-top) ++ columns rows (length k))
  unfolding quinto_faces made vertex_at vr num
  quinto-drawn = draw-first o k (quinto_from o k x) (cor Here) quinto_rule (numbered (positions x) (edges o k) (vx o k)) (row top-top) rows (λ c. refl) (λ c h. refl)

  pub quinto-keeps : Shell o k (positions x) → Keeps o k (positions x) (positions x + edges o k + length k) (quinto_faces o k x) (6 * edges o k)
  unfolding quinto_faces
  quinto-keeps S =
      let w = twice S in
      let z : Sized (quinto_faces o k x) (faces o + length k) (length k + 5 * length k) = sized-append (sized-face o k _ (cor Here) S.surface.shaped) (sized-corner o k _ quinto_rule) in
      record {
        shell = rw quinto-drawn (shell-first S (uniform o k (positions x) S));
        corners = z.corners ∙ omega arith;
        same = omega (arith, z.many);
      }
