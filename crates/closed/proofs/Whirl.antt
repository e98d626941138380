-- Whirl keeps a mesh closed. Assumes nothing.
use Rattle.std.specs.Prelude.{◌≡◌, ℕ, ◌+◌, ◌*◌, ◌<◌, Float}
use Rattle.std.proofs.Math.Path.{refl, ap}
use Rattle.std.proofs.Common.{sym, ◌∙◌, add_assoc, arith}
use mathlib.Core.List.Memᴰ.{head as here}
use mathlib.Core.List.Memᴰ.{not-nil}
use mathlib.Core.List.Memᴰ.{tail as there}
use mathlib.Core.List.{List, [], ◌∷◌, ◌++◌, Memᴰ as Mem}
use Rattle.std.proofs.Math.ListN.{length, get_or}
use Rattle.slices.specs.Lists.{each}
use Rattle.mesh.specs.Mesh.{faces, next, prev, mate}
use Rattle.mesh.specs.Edges.{edges}
use Rattle.rule.specs.Rule.{vertex_at, made, cor}
use Rattle.rule.specs.Named.{positions}
use Rattle.rule.specs.declared.Move.TheVariants.{Here}
use Rattle.closed.specs.Keeps.{Shell, Keeps}
use Rattle.closed.specs.Rules.{whirl_rule}
use Rattle.closed.specs.Faces.{whirl_from, whirl_faces}
use Rattle.closed.specs.Lists.{nd0, nd, nodup-nth, out}
use Rattle.closed.specs.Net.{dir_of, dir<, nx<, pv<, mt<, nx-pv, mt-st, mt-en, mt-mt, nx-inj, mt-inj, nx≢, nx2≢, mt≢, mt≢nx, twice}
use Rattle.closed.specs.Layout.{Round, drawn}
use Rattle.closed.specs.Rule.{Vtx, old, mid, top, slot_at, Fits, Rows, row, more, Same, apart_by, num, numbered, dirs-inj, dirs≢, mid-inj, old≢mid, old≢top, top≢mid, top≢old}
use Rattle.closed.specs.Parts.{Chain, written, column, columns, rings, Sized, sized-append, sized-corner, sized-face}
use Rattle.closed.specs.Uniform.{Uniform, onward, shell-last, draw-last}

-- the corners of the new faces by the kinds of their edges' ends, each with its vertex, the next corner, and the corner across
pub data G : Type 0 where
  mid-mid top-top top-old old-top top-mid mid-top : G

pub data X : Type 0 where
  back : X

abbrev pub Row : Type 0
Row = Rows G X

abbrev pub rows : List Row
rows = row top-top ∷ row top-old ∷ row old-top ∷ row top-mid ∷ more back ∷ row mid-top ∷ []

abbrev pub nth : Row → ℕ
nth (row mid-mid) = 0
nth (row top-top) = 1
nth (row top-old) = 2
nth (row old-top) = 3
nth (row top-mid) = 4
nth (more back) = 5
nth (row mid-top) = 6

unfoldable pub vr : List ℕ → List ℕ → Row → ℕ → Vtx
vr o k r c = slot_at mid o k (get_or (cor Here ∷ whirl_rule) (nth r) (cor Here)) c

unfoldable pub nr : List ℕ → Row → ℕ → Row × ℕ
nr o r c = onward o (row top-top) rows nth r c

unfoldable pub mr : List ℕ → List ℕ → Row → ℕ → Row × ℕ
mr o k (row mid-mid) c = (more back, c)
mr o k (row top-top) c = (row top-top, mate o k c)
mr o k (row top-old) c = (row old-top, prev o (mate o k c))
mr o k (row old-top) c = (row top-old, mate o k (next o c))
mr o k (row top-mid) c = (row mid-top, next o c)
mr o k (more back) c = (row mid-mid, c)
mr o k (row mid-top) c = (row top-mid, prev o c)

abbrev pub vx : List ℕ → List ℕ → Row × ℕ → Vtx
vx o k q = vr o k q.0 q.1

abbrev pub nk : List ℕ → Row × ℕ → Row × ℕ
nk o q = nr o q.0 q.1

abbrev pub mk : List ℕ → List ℕ → Row × ℕ → Row × ℕ
mk o k q = mr o k q.0 q.1

-- the kinds of the two ends
which : Vtx → Vtx → G
which (old i) y = old-top
which (mid i) (old j) = mid-mid
which (mid i) (mid j) = mid-mid
which (mid i) (top j) = mid-top
which (top i) (old j) = top-old
which (top i) (mid j) = top-mid
which (top i) (top j) = top-top

module _ (o k : List ℕ) (v : ℕ) (S : Shell o k v) where
  paired : (r : Row) (c : ℕ) → c < length k → ((mr o k r c).1 < length k) × (vx o k (mr o k r c) ≡ vx o k (nr o r c)) × (vx o k (nk o (mr o k r c)) ≡ vr o k r c)
  unfolding vr nr mr
  paired (row mid-mid) c h = (h, refl, refl)
  paired (row top-top) c h = (mt< S c h, refl, ap (λ z. top (dir_of o k z)) (mt-mt S c h))
  paired (row top-old) c h =
      let m = mt< S c h in
      (pv< S (mate o k c) m, ap old (ap (λ z. get_or k z 0) (nx-pv S (mate o k c) m) ∙ mt-st S c h), ap (λ z. top (dir_of o k z)) (nx-pv S (mate o k c) m))
  paired (row old-top) c h = let n = nx< S c h in (mt< S (next o c) n, ap (λ z. top (dir_of o k z)) (mt-mt S (next o c) n), ap old (mt-en S (next o c) n))
  paired (row top-mid) c h = (nx< S c h, refl, refl)
  paired (more back) c h = (h, refl, refl)
  paired (row mid-top) c h = (pv< S c h, ap (λ z. top (dir_of o k z)) (nx-pv S c h), ap mid (nx-pv S c h))

  fits : (r : Row) (c : ℕ) → c < length k → Fits v (length k) (2 * edges o k) (vr o k r c)
  unfolding vr
  fits (row mid-mid) c h = h
  fits (row top-top) c h = dir< S c h
  fits (row top-old) c h = dir< S (mate o k c) (mt< S c h)
  fits (row old-top) c h = S.inside (next o c) (nx< S c h)
  fits (row top-mid) c h = dir< S (next o c) (nx< S c h)
  fits (more back) c h = nx< S c h
  fits (row mid-top) c h = h

  which-row : (g : G) (c : ℕ) → which (vx o k (row g, c)) (vx o k (nk o (row g, c))) ≡ g
  unfolding which vr nr
  which-row mid-mid c = refl
  which-row top-top c = refl
  which-row top-old c = refl
  which-row old-top c = refl
  which-row top-mid c = refl
  which-row mid-top c = refl

  which-more : (x : X) (c : ℕ) → which (vx o k (more x, c)) (vx o k (nk o (more x, c))) ≡ mid-mid
  unfolding which vr nr
  which-more back c = refl

  same : (g : G) (c d : ℕ) → c < length k → d < length k → Same (length k) (vx o k) (nk o) (row g, c) (row g, d) → c ≡ d
  unfolding vr nr
  same mid-mid c d h l p = mid-inj p.0
  same top-top c d h l p = dirs-inj S h l p.0
  same top-old c d h l p = mt-inj S h l (dirs-inj S (mt< S c h) (mt< S d l) p.0)
  same old-top c d h l p = nx-inj S h l (dirs-inj S (nx< S c h) (nx< S d l) p.1)
  same top-mid c d h l p = nx-inj S h l (mid-inj p.1)
  same mid-top c d h l p = mid-inj p.0

  same_more : (x y : X) (c d : ℕ) → c < length k → d < length k → Same (length k) (vx o k) (nk o) (more x, c) (more y, d) → ◌≡◌ {A = Row × ℕ} (more x, c) (more y, d)
  unfolding vr nr
  same_more back back c d h l p = let e = mid-inj p.1 in λ z. (more back, e z)

  clash : (x : X) (c d : ℕ) → c < length k → d < length k → Same (length k) (vx o k) (nk o) (row mid-mid, c) (more x, d) → ⊥
  unfolding vr nr
  clash back c d h l p = nx2≢ S d l (ap (next o) (sym (mid-inj p.0)) ∙ mid-inj p.1)

  round : (c : ℕ) → c < length k → Round (row mid-mid, 0) (vx o k) (nk o) (column rows c)
  unfolding vr nr Chain
  round c h =
      let m = mt< S c h in
      let n = nx< S c h in
      written (row mid-mid, 0) (vx o k) (nk o) _ _ (omega arith) (refl, (refl, (refl, (refl, (refl, refl)))))
      (nd (out (dirs≢ S h m (λ e. mt≢ S c h (sym e))) (out top≢old (out (dirs≢ S h n (λ e. nx≢ S c h (sym e))) (out top≢mid (out top≢mid not-nil)))))
      (nd (out top≢old (out (dirs≢ S m n (mt≢nx S c h)) (out top≢mid (out top≢mid not-nil))))
      (nd (out old≢top (out old≢mid (out old≢mid not-nil)))
      (nd (out top≢mid (out top≢mid not-nil))
      (nd (out (λ e. nx≢ S c h (mid-inj e)) not-nil)
      (nd not-nil nd0))))))

  rows_all : (r : Row) → Mem r (row mid-mid ∷ rows)
  rows_all (row mid-mid) = here refl
  rows_all (row top-top) = there (here refl)
  rows_all (row top-old) = there (there (here refl))
  rows_all (row old-top) = there (there (there (here refl)))
  rows_all (row top-mid) = there (there (there (there (here refl))))
  rows_all (more back) = there (there (there (there (there (here refl)))))
  rows_all (row mid-top) = there (there (there (there (there (there (here refl))))))

  uniform : Uniform o k v (length k) (2 * edges o k) (row mid-mid) rows (vx o k) (nk o) (mk o k)
  unfolding each vr nr
  uniform = record {
    rows-once = nodup-nth nth (row mid-mid ∷ rows) 7 refl;
    rows_all = rows_all;
    inner-next = λ c. refl;
    inner-apart = λ c d h l e. mid-inj e;
    round = round;
    table = record {
      fits = λ q. fits q.0 q.1;
      apart = apart_by (length k) (vx o k) (nk o) which mid-mid (record { which-row = which-row; which-more = which-more; same = same; same_more = same_more; clash = clash });
      paired = λ q. paired q.0 q.1;
    };
  }

module _ (o k : List ℕ) (x : List Float) where
  whirl-drawn : whirl_faces o k x ≡ drawn (numbered (positions x) (length k) (vx o k)) (columns rows (length k) ++ rings o (row mid-mid))
  unfolding whirl_faces made vertex_at vr num
  whirl-drawn = draw-last o k (whirl_from k x) (cor Here) whirl_rule (numbered (positions x) (length k) (vx o k)) (row mid-mid) rows (λ c. refl) (λ c h. simp add_assoc)

  pub whirl-keeps : Shell o k (positions x) → Keeps o k (positions x) (positions x + length k + 2 * edges o k) (whirl_faces o k x) (7 * edges o k)
  unfolding whirl_faces
  whirl-keeps S =
      let w = twice S in
      let z : Sized (whirl_faces o k x) (length k + faces o) (6 * length k + length k) = sized-append (sized-corner o k _ whirl_rule) (sized-face o k _ (cor Here) S.surface.shaped) in
      record {
        shell = rw whirl-drawn (shell-last S (uniform o k (positions x) S));
        corners = z.corners ∙ omega arith;
        same = omega (arith, z.many);
      }
