-- Gyro keeps a mesh closed. Assumes nothing.
use Rattle.std.specs.Prelude.{◌≡◌, ℕ, suc, ◌+◌, ◌*◌, ◌<◌, Float}
use Rattle.std.proofs.Math.Path.{refl, sym, ap}
use Rattle.std.proofs.Common.{◌∙◌, add_assoc, arith}
use mathlib.Core.List.Memᴰ.{head as here}
use mathlib.Core.List.Memᴰ.{not-nil}
use mathlib.Core.List.Memᴰ.{tail as there}
use mathlib.Core.List.{List, [], ◌∷◌, Memᴰ as Mem}
use Rattle.std.proofs.Math.ListN.{length, get_or}
use Rattle.slices.specs.Lists.{each}
use Rattle.mesh.specs.Mesh.{faces, next, prev, mate, turn}
use Rattle.mesh.specs.Edges.{edges}
use Rattle.rule.specs.Rule.{vertex_at, made, face}
use Rattle.rule.specs.Named.{from, positions}
use Rattle.closed.specs.Keeps.{Shell, Keeps}
use Rattle.closed.specs.Rules.{gyro_rule}
use Rattle.closed.specs.Faces.{gyro_faces}
use Rattle.closed.specs.Lists.{Nodup, nd0, nd, nodup-nth, out}
use Rattle.closed.specs.Net.{dir_of, dir<, nx<, pv<, mt<, fc<, nx-pv, pv-nx, fc-nx, fc-pv, mt-st, mt-en, mt-mt, pv-inj, mt-inj, mt≢, mt≢nx, pv≢, twice}
use Rattle.closed.specs.Layout.{Round, Held, Laid, drawn}
use Rattle.closed.specs.Rule.{Vtx, old, mid, top, slot_at, Fits, Table, At, num, numbered, shell-of, apart-rows, dirs-inj, dirs≢, old≢mid, old≢top, mid≢top, top≢mid}
use Rattle.closed.specs.Parts.{Chain, written, column, columns, columns-held, held-as, ones-all, draw-corners, Sized, sized-corner}

-- the corners of the pentagon, each with its vertex, the next corner, and the corner across
pub data Row : Type 0 where
  g0 g1 g2 g3 g4 : Row

abbrev pub rows : List Row
rows = g0 ∷ g1 ∷ g2 ∷ g3 ∷ g4 ∷ []

abbrev pub nth : Row → ℕ
nth g0 = 0
nth g1 = 1
nth g2 = 2
nth g3 = 3
nth g4 = 4

unfoldable pub vr : List ℕ → List ℕ → Row → ℕ → Vtx
vr o k r c = slot_at mid o k (get_or gyro_rule (nth r) face) c

unfoldable pub nr : Row → ℕ → Row × ℕ
nr r c = (get_or rows (suc (nth r)) g0, c)

unfoldable pub mr : List ℕ → List ℕ → Row → ℕ → Row × ℕ
mr o k g0 c = (g4, next o (mate o k c))
mr o k g1 c = (g2, next o c)
mr o k g2 c = (g1, prev o c)
mr o k g3 c = (g3, next o (mate o k (prev o c)))
mr o k g4 c = (g0, mate o k (prev o c))

abbrev pub vx : List ℕ → List ℕ → Row × ℕ → Vtx
vx o k q = vr o k q.0 q.1

abbrev pub nk : Row × ℕ → Row × ℕ
nk q = nr q.0 q.1

abbrev pub mk : List ℕ → List ℕ → Row × ℕ → Row × ℕ
mk o k q = mr o k q.0 q.1

-- the row by the kinds of the two ends
which : Vtx → Vtx → Row
which (old i) y = g0
which (mid i) y = g2
which (top i) (old j) = g4
which (top i) (mid j) = g1
which (top i) (top j) = g3

rows-once : Nodup rows
unfolding each
rows-once = nodup-nth nth rows 5 refl

rows_all : (r : Row) → Mem r rows
rows_all g0 = here refl
rows_all g1 = there (here refl)
rows_all g2 = there (there (here refl))
rows_all g3 = there (there (there (here refl)))
rows_all g4 = there (there (there (there (here refl))))

abbrev pub drawing : List ℕ → List ℕ → ℕ → List (List ℕ)
drawing o k v = drawn (numbered v (faces o) (vx o k)) (columns rows (length k))

module _ (o k : List ℕ) (v : ℕ) (S : Shell o k v) where
  back< : (c : ℕ) → c < length k → mate o k (prev o c) < length k
  back< c h = mt< S (prev o c) (pv< S c h)

  paired : (r : Row) (c : ℕ) → c < length k → ((mr o k r c).1 < length k) × (vx o k (mr o k r c) ≡ vx o k (nr r c)) × (vx o k (nk (mr o k r c)) ≡ vr o k r c)
  unfolding vr nr mr turn
  paired g0 c h =
      let l = mt< S c h in
      (nx< S (mate o k c) l, ap (λ z. top (dir_of o k z)) (ap (mate o k) (pv-nx S (mate o k c) l) ∙ mt-mt S c h), ap old (mt-en S c h))
  paired g1 c h = (nx< S c h, ap mid (fc-nx S c h), ap (λ z. top (dir_of o k z)) (pv-nx S c h))
  paired g2 c h = (pv< S c h, refl, ap mid (fc-pv S c h))
  paired g3 c h =
      let l = back< c h in
      let e = pv-nx S (mate o k (prev o c)) l in
      (nx< S _ l, ap (λ z. top (dir_of o k z)) e, ap (λ z. top (dir_of o k z)) (ap (mate o k) e ∙ mt-mt S (prev o c) (pv< S c h)))
  paired g4 c h = (back< c h, ap old (mt-st S (prev o c) (pv< S c h) ∙ ap (λ z. get_or k z 0) (nx-pv S c h)), refl)

  fits : (r : Row) (c : ℕ) → c < length k → Fits v (faces o) (2 * edges o k) (vr o k r c)
  unfolding vr turn
  fits g0 c h = S.inside c h
  fits g1 c h = dir< S c h
  fits g2 c h = fc< S c h
  fits g3 c h = dir< S (prev o c) (pv< S c h)
  fits g4 c h = dir< S (mate o k (prev o c)) (back< c h)

  which-row : (r : Row) (c : ℕ) → which (vr o k r c) (vx o k (nr r c)) ≡ r
  unfolding which vr nr
  which-row g0 c = refl
  which-row g1 c = refl
  which-row g2 c = refl
  which-row g3 c = refl
  which-row g4 c = refl

  same : (r : Row) (c d : ℕ) → c < length k → d < length k → vr o k r c ≡ vr o k r d → vx o k (nr r c) ≡ vx o k (nr r d) → c ≡ d
  unfolding vr nr turn
  same g0 c d h l p q = dirs-inj S h l q
  same g1 c d h l p q = dirs-inj S h l p
  same g2 c d h l p q = pv-inj S h l (dirs-inj S (pv< S c h) (pv< S d l) q)
  same g3 c d h l p q = pv-inj S h l (dirs-inj S (pv< S c h) (pv< S d l) p)
  same g4 c d h l p q = pv-inj S h l (mt-inj S (pv< S c h) (pv< S d l) (dirs-inj S (back< c h) (back< d l) p))

  round : (c : ℕ) → c < length k → Round (g0, 0) (vx o k) nk (column rows c)
  unfolding vr nr Chain turn
  round c h =
      let l = pv< S c h in
      written (g0, 0) (vx o k) nk _ _ (omega arith) (refl, (refl, (refl, (refl, refl))))
      (nd (out old≢top (out old≢mid (out old≢top (out old≢top not-nil))))
      (nd (out top≢mid (out (dirs≢ S h l (λ e. pv≢ S c h (sym e))) (out (dirs≢ S h (back< c h) (λ e. mt≢nx S (prev o c) l (sym e ∙ sym (nx-pv S c h)))) not-nil)))
      (nd (out mid≢top (out mid≢top not-nil))
      (nd (out (dirs≢ S l (back< c h) (λ e. mt≢ S (prev o c) l (sym e))) not-nil)
      (nd not-nil nd0)))))

  table : Table v (faces o) (2 * edges o k) (At (length k)) (vx o k) nk (mk o k)
  table = record {
    fits = λ q. fits q.0 q.1;
    apart = apart-rows (At (length k)) (vx o k) nk which which-row same;
    paired = λ q. paired q.0 q.1;
  }

  held : Held (At (length k)) (columns rows (length k))
  held = held-as (λ q h. h.1) (λ q h. (rows_all q.0, h)) (columns-held rows (length k) rows-once)

  shell : Laid (drawing o k v) (v + faces o + 2 * edges o k)
  shell = shell-of (g0, 0) (columns rows (length k)) table held (ones-all (Round (g0, 0) (vx o k) nk) (column rows) (length k) round)

module _ (o k : List ℕ) (x : List Float) where
  gyro-drawn : gyro_faces o k x ≡ drawing o k (positions x)
  unfolding gyro_faces made vertex_at turn vr num
  gyro-drawn = draw-corners o k (from (positions x + faces o) 0 0 (positions x)) (numbered (positions x) (faces o) (vx o k)) gyro_rule rows (λ c h. simp add_assoc)

  pub gyro-keeps : Shell o k (positions x) → Keeps o k (positions x) (positions x + faces o + 2 * edges o k) (gyro_faces o k x) (5 * edges o k)
  unfolding gyro_faces
  gyro-keeps S =
      let w = twice S in
      let z : Sized (gyro_faces o k x) (length k) (5 * length k) = sized-corner o k _ gyro_rule in
      record {
        shell = rw gyro-drawn (shell o k (positions x) S);
        corners = z.corners ∙ omega arith;
        same = omega (arith, z.many);
      }
