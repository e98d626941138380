-- Chamfer keeps a mesh closed. Assumes nothing.
use Rattle.std.specs.Prelude.{◌≡◌, ◌⊎◌, Bool, ℕ, ◌+◌, ◌*◌, ◌<◌, get_or, Float}
use Rattle.std.proofs.Math.Path.{refl, sym, ap, ap₂, subst}
use Rattle.std.proofs.Common.{◌∙◌}
use Rattle.std.proofs.Math.Logic.{inl, inr, ⊎_elim}
use Rattle.std.proofs.Math.Bool.{true, false, cond, not}
use mathlib.Core.List.Memᴰ.{append_cases}
use mathlib.Core.List.Memᴰ.{append_left}
use mathlib.Core.List.Memᴰ.{append_right}
use mathlib.Core.List.Memᴰ.{eq_of_singleton as of_one}
use mathlib.Core.List.Memᴰ.{head as here}
use mathlib.Core.List.Memᴰ.{not-nil}
use mathlib.Core.List.Memᴰ.{tail as there}
use mathlib.Core.List.{List, [], ◌∷◌, ◌++◌, map, Memᴰ as Mem}
use native.Mathlib.Omega.{arith}
use Rattle.std.proofs.Math.ListN.{length}
use Rattle.slices.specs.Lists.{each, length-where}
use Rattle.mesh.specs.Mesh.{faces, next, prev, mate}
use Rattle.mesh.specs.Edges.{up, edges}
use Rattle.mesh.specs.Ranks.{rep, rep-mate}
use Rattle.rule.specs.Rule.{vertex_at, made, cor}
use Rattle.rule.specs.Named.{from, positions, per_up}
use Rattle.rule.specs.declared.Move.TheVariants.{Here}
use Rattle.closed.specs.Keeps.{Shell, Keeps}
use Rattle.closed.specs.Rules.{chamfer_rule}
use Rattle.closed.specs.Faces.{chamfer_faces}
use Rattle.closed.specs.Lists.{Nodup, nd0, nd, nodup-nth, nodup_append, nodup-each, mem-each, of-each, joined, joined-each, joined-one, each-cong, map_each, map-append, out, also, nothing}
use Rattle.closed.specs.Net.{nx<, pv<, mt<, nx-pv, pv-nx, mt-en, mt-mt, nx-inj, nx≢, nx≢pv, st≢, mt≢, mt≢nx, up-mt, twice}
use Rattle.closed.specs.Layout.{Round, Held, Laid, drawn}
use Rattle.closed.specs.Rule.{Vtx, old, mid, top, Fits, Table, At, Rows, row, more, Same, apart_by, num, numbered, shell-of, old-inj, mid-inj, old≢mid, mid≢old}
use Rattle.closed.specs.Parts.{Chain, written, rings, rings-held, rings-round, held-as, held-append, each_all, append-all, draw-rings, Sized, sized-append, sized-face, made-long, flat-joined}

-- the corners of the new faces by the kinds of their edges' ends, each with its vertex, the next corner, and the corner across
pub data G : Type 0 where
  mid-mid old-mid mid-old : G

pub data X : Type 0 where
  back : X

abbrev pub Row : Type 0
Row = Rows G X

unfoldable pub vr : List ℕ → Row → ℕ → Vtx
vr k (row mid-mid) c = mid c
vr k (row old-mid) c = old (get_or k c 0)
vr k (more back) c = mid c
vr k (row mid-old) c = mid c

unfoldable pub nr : List ℕ → List ℕ → Row → ℕ → Row × ℕ
nr o k (row mid-mid) c = (row mid-mid, next o c)
nr o k (row old-mid) c = (more back, c)
nr o k (more back) c = (row mid-old, prev o c)
nr o k (row mid-old) c = (row old-mid, next o (mate o k c))

unfoldable pub mr : List ℕ → Row → ℕ → Row × ℕ
mr o (row mid-mid) c = (more back, next o c)
mr o (row old-mid) c = (row mid-old, c)
mr o (more back) c = (row mid-mid, prev o c)
mr o (row mid-old) c = (row old-mid, c)

abbrev pub vx : List ℕ → Row × ℕ → Vtx
vx k q = vr k q.0 q.1

abbrev pub nk : List ℕ → List ℕ → Row × ℕ → Row × ℕ
nk o k q = nr o k q.0 q.1

abbrev pub mk : List ℕ → Row × ℕ → Row × ℕ
mk o q = mr o q.0 q.1

-- half of a hexagon: the three corners on the side of corner c; a hexagon has those of the mate's side and its own
abbrev pub half : List ℕ → ℕ → List (Row × ℕ)
half o c = (row old-mid, next o c) ∷ (more back, next o c) ∷ (row mid-old, c) ∷ []

abbrev pub hexagon : List ℕ → List ℕ → ℕ → List (Row × ℕ)
hexagon o k c = half o (mate o k c) ++ half o c

abbrev pub hexagons : List ℕ → List ℕ → List (List (Row × ℕ))
hexagons o k = each (λ c. cond (up o k c) (hexagon o k c ∷ []) []) (length k)

abbrev pub key_faces : List ℕ → List ℕ → List (List (Row × ℕ))
key_faces o k = rings o (row mid-mid) ++ hexagons o k

-- the corner on whose side a key lies
site : List ℕ → Row → ℕ → ℕ
site o (row mid-mid) c = c
site o (row old-mid) c = prev o c
site o (more back) c = prev o c
site o (row mid-old) c = c

-- the kinds of the two ends
which : Vtx → Vtx → G
which (old i) y = old-mid
which (mid i) (old j) = mid-old
which (mid i) (mid j) = mid-mid
which (mid i) (top j) = mid-mid
which (top i) y = mid-mid

nth : Row → ℕ
nth (row old-mid) = 0
nth (more back) = 1
nth (row mid-old) = 2
nth (row mid-mid) = 3

-- lists where a test holds
cond_yes : {A : Type 0} {x : A} (b : Bool) (l : List A) → Mem x (cond b l []) → (b ≡ true) × Mem x l
cond_yes true l m = (refl, m)
cond_yes false l m = absurd (not-nil m)

nodup-cond : {A : Type 0} (b : Bool) (l : List A) → Nodup l → Nodup (cond b l [])
nodup-cond true l n = n
nodup-cond false l n = nd0

joined-cond : {A : Type 0} (b : Bool) (l : List A) → joined (cond b (l ∷ []) []) ≡ cond b l []
unfolding joined
joined-cond true l = joined-one l
joined-cond false l = refl

module _ (o k : List ℕ) (v : ℕ) (S : Shell o k v) where
  round : (c : ℕ) → c < length k → Round (row mid-mid, 0) (vx k) (nk o k) (hexagon o k c)
  unfolding vr nr Chain
  round c h =
      let m = mt< S c h in
      let a : mate o k c ≡ prev o (next o (mate o k c)) = sym (pv-nx S (mate o k c) m) in
      let b : c ≡ mate o k (mate o k c) = sym (mt-mt S c h) in
      let d : c ≡ prev o (next o c) = sym (pv-nx S c h) in
      written (row mid-mid, 0) (vx k) (nk o k) _ _ (omega arith) (refl, ((λ z. (row mid-old, a z)), ((λ z. (row old-mid, next o (b z))), (refl, ((λ z. (row mid-old, d z)), refl)))))
      (nd (out old≢mid (out old≢mid (out (λ e. st≢ S c h (sym (mt-en S c h) ∙ old-inj e)) (out old≢mid (out old≢mid not-nil)))))
      (nd (out (λ e. nx≢ S (mate o k c) m (mid-inj e)) (out mid≢old (out (λ e. mt≢ S c h (nx-inj S m h (mid-inj e))) (out (λ e. mt≢nx S (mate o k c) m (mt-mt S c h ∙ sym (mid-inj e))) not-nil))))
      (nd (out mid≢old (out (λ e. mt≢nx S c h (mid-inj e)) (out (λ e. mt≢ S c h (mid-inj e)) not-nil)))
      (nd (out old≢mid (out old≢mid not-nil))
      (nd (out (λ e. nx≢ S c h (mid-inj e)) not-nil)
      (nd not-nil nd0))))))

  fits : (r : Row) (c : ℕ) → c < length k → Fits v (length k) 0 (vr k r c)
  unfolding vr
  fits (row mid-mid) c h = h
  fits (row old-mid) c h = S.inside c h
  fits (more back) c h = h
  fits (row mid-old) c h = h

  which-row : (g : G) (c : ℕ) → which (vx k (row g, c)) (vx k (nk o k (row g, c))) ≡ g
  unfolding which vr nr
  which-row mid-mid c = refl
  which-row old-mid c = refl
  which-row mid-old c = refl

  which-more : (x : X) (c : ℕ) → which (vx k (more x, c)) (vx k (nk o k (more x, c))) ≡ mid-mid
  unfolding which vr nr
  which-more back c = refl

  same : (g : G) (c d : ℕ) → c < length k → d < length k → Same (length k) (vx k) (nk o k) (row g, c) (row g, d) → c ≡ d
  unfolding vr nr
  same mid-mid c d h l p = mid-inj p.0
  same old-mid c d h l p = mid-inj p.1
  same mid-old c d h l p = mid-inj p.0

  same_more : (x y : X) (c d : ℕ) → c < length k → d < length k → Same (length k) (vx k) (nk o k) (more x, c) (more y, d) → ◌≡◌ {A = Row × ℕ} (more x, c) (more y, d)
  unfolding vr nr
  same_more back back c d h l p = let e = mid-inj p.0 in λ z. (more back, e z)

  clash : (x : X) (c d : ℕ) → c < length k → d < length k → Same (length k) (vx k) (nk o k) (row mid-mid, c) (more x, d) → ⊥
  unfolding vr nr
  clash back c d h l p = nx≢pv S d l (ap (next o) (sym (mid-inj p.0)) ∙ mid-inj p.1)

  paired : (r : Row) (c : ℕ) → c < length k → ((mr o r c).1 < length k) × (vx k (mr o r c) ≡ vx k (nr o k r c)) × (vx k (nk o k (mr o r c)) ≡ vr k r c)
  unfolding vr nr mr
  paired (row mid-mid) c h = (nx< S c h, refl, ap mid (pv-nx S c h))
  paired (row old-mid) c h = (h, refl, ap old (mt-en S c h))
  paired (more back) c h = (pv< S c h, refl, ap mid (nx-pv S c h))
  paired (row mid-old) c h = (h, ap old (sym (mt-en S c h)), refl)

  table : Table v (length k) 0 (At (length k)) (vx k) (nk o k) (mk o)
  table = record {
    fits = λ q. fits q.0 q.1;
    apart = apart_by (length k) (vx k) (nk o k) which mid-mid (record { which-row = which-row; which-more = which-more; same = same; same_more = same_more; clash = clash });
    paired = λ q. paired q.0 q.1;
  }

  -- ---- each half is in one hexagon

  -- a key of half a hexagon: the side it lies on, its place, and that it is of no inner face
  abbrev Sited : ℕ → Row × ℕ → Type 0
  Sited x q = (site o q.0 q.1 ≡ x) × (q.1 < length k) × (nth q.0 < 3)

  half-site : (x : ℕ) → x < length k → (q : Row × ℕ) → Mem q (half o x) → Sited x q
  unfolding site nth
  half-site x h = also (Sited x) (pv-nx S x h, nx< S x h, omega arith) (also (Sited x) (pv-nx S x h, nx< S x h, omega arith) (also (Sited x) (refl, h, omega arith) (nothing (Sited x))))

  hex-site : (c : ℕ) → c < length k → (q : Row × ℕ) → Mem q (hexagon o k c) → (rep o k (site o q.0 q.1) ≡ rep o k c) × (q.1 < length k) × (nth q.0 < 3)
  hex-site c h q m = go (append_cases (half o (mate o k c)) m)
    where
      go : Mem q (half o (mate o k c)) ⊎ Mem q (half o c) → (rep o k (site o q.0 q.1) ≡ rep o k c) × (q.1 < length k) × (nth q.0 < 3)
      go (inl j) = let t = half-site (mate o k c) (mt< S c h) q j in (ap (rep o k) t.0 ∙ rep-mate o k S.surface c h, t.1, t.2)
      go (inr j) = let t = half-site c h q j in (ap (rep o k) t.0, t.1, t.2)

  nodup-half : (x : ℕ) → Nodup (half o x)
  unfolding nth each
  nodup-half x = nodup-nth (λ q. nth q.0) (half o x) 3 refl

  nodup-hex : (c : ℕ) → c < length k → Nodup (hexagon o k c)
  nodup-hex c h = nodup_append (nodup-half (mate o k c)) (nodup-half c) (λ q a b. mt≢ S c h (sym (half-site (mate o k c) (mt< S c h) q a).0 ∙ (half-site c h q b).0))

  hexes : ℕ → List (Row × ℕ)
  hexes c = cond (up o k c) (hexagon o k c) []

  laid : joined (hexagons o k) ≡ each hexes (length k)
  unfolding hexes
  laid = joined-each (λ c. cond (up o k c) (hexagon o k c ∷ []) []) (length k) ∙ each-cong (λ c. joined (cond (up o k c) (hexagon o k c ∷ []) [])) hexes (length k) (λ c h. joined-cond (up o k c) (hexagon o k c))

  up-rep : (c : ℕ) → up o k c ≡ true → rep o k c ≡ c
  unfolding rep
  up-rep c e = rw e

  in-half : (x : ℕ) → x < length k → {q : Row × ℕ} → Mem q (half o x) → Mem q (joined (hexagons o k))
  unfolding hexes
  in-half x h {q} m = subst (Mem q) (sym laid) (go (up o k x) refl)
    where
      go : (b : Bool) → up o k x ≡ b → Mem q (each hexes (length k))
      go true e = mem-each hexes (length k) x h (rw e (append_right (half o (mate o k x)) m))
      go false e =
          let u : up o k (mate o k x) ≡ true = up-mt S x h ∙ ap not e in
          mem-each hexes (length k) (mate o k x) (mt< S x h) (rw u (append_left (half o (mate o k x)) (subst (λ z. Mem q (half o z)) (sym (mt-mt S x h)) m)))

  hex-full : (r : Row) (c : ℕ) → c < length k → nth r < 3 → Mem (r, c) (joined (hexagons o k))
  unfolding nth
  hex-full (row mid-mid) c h l = absurd (omega arith)
  hex-full (row old-mid) c h l = in-half (prev o c) (pv< S c h) (here (ap (λ z. (row old-mid, z)) (sym (nx-pv S c h))))
  hex-full (more back) c h l = in-half (prev o c) (pv< S c h) (there (here (ap (λ z. (more back, z)) (sym (nx-pv S c h)))))
  hex-full (row mid-old) c h l = in-half c h (there (there (here refl)))

  hexagons-held : Held (λ q. (nth q.0 < 3) × (q.1 < length k)) (hexagons o k)
  unfolding hexes
  hexagons-held = record {
    once = rw laid (nodup-each hexes (length k) (λ c h. nodup-cond (up o k c) (hexagon o k c) (nodup-hex c h)) (λ c d q h l a b.
        let s = cond_yes (up o k c) (hexagon o k c) a in
        let t = cond_yes (up o k d) (hexagon o k d) b in
        sym (up-rep c s.0) ∙ sym (hex-site c h q s.1).0 ∙ (hex-site d l q t.1).0 ∙ up-rep d t.0));
    only = λ q m.
        let t = of-each hexes (length k) (subst (Mem q) laid m) in
        let s = cond_yes (up o k t.0) (hexagon o k t.0) t.2 in
        let w = hex-site t.0 t.1 q s.1 in
        (w.2, w.1);
    full = λ q m. hex-full q.0 q.1 m.1 m.0;
  }

  split_rows : (r : Row) → Mem r (row mid-mid ∷ []) ⊎ (nth r < 3)
  unfolding nth
  split_rows (row mid-mid) = inl (here refl)
  split_rows (row old-mid) = inr (omega arith)
  split_rows (more back) = inr (omega arith)
  split_rows (row mid-old) = inr (omega arith)

  held : Held (At (length k)) (key_faces o k)
  unfolding nth
  held = held-as (λ q. ⊎_elim (λ a. a.1) (λ a. a.1)) (λ q h. ⊎_elim (λ a. inl (a, h)) (λ a. inr (a, h)) (split_rows q.0))
      (held-append (rings o (row mid-mid)) (hexagons o k) (λ q a b. omega (arith, ap nth (of_one a.0), b.0)) (rings-held o (length k) S.surface.shaped (row mid-mid)) hexagons-held)

  abbrev drawing : List (List ℕ)
  drawing = drawn (numbered v (length k) (vx k)) (key_faces o k)

  shell : Laid drawing (v + length k + 0)
  unfolding vr nr
  shell = shell-of (row mid-mid, 0) (key_faces o k) table held (append-all Fine (rings o (row mid-mid)) (hexagons o k)
      (rings-round o (length k) S.surface.shaped (row mid-mid) (vx k) (nk o k) S.surface.full (λ c. refl) (λ c d h l e. mid-inj e))
      (each_all Fine (λ c. cond (up o k c) (hexagon o k c ∷ []) []) (length k) (λ c h l j. subst Fine (sym (of_one (cond_yes (up o k c) (hexagon o k c ∷ []) j).1)) (round c h))))
    where
      Fine : List (Row × ℕ) → Type 0
      Fine = Round (row mid-mid, 0) (vx k) (nk o k)

-- ---- how many faces and corners the ascending corners make
module _ (o k : List ℕ) (x : List Float) where
  abbrev ups : List (List ℕ)
  ups = per_up (from 0 0 (positions x) 0) chamfer_rule o k

  hex : ℕ → List ℕ
  hex c = made (vertex_at o k (from 0 0 (positions x) 0)) chamfer_rule c

  cond-many : (b : Bool) (l : List ℕ) → length (cond b (l ∷ []) []) ≡ 1 * cond b 1 0
  cond-many true l = refl
  cond-many false l = refl

  cond-corners : (b : Bool) (l : List ℕ) → length l ≡ 6 → length (joined (cond b (l ∷ []) [])) ≡ 6 * cond b 1 0
  unfolding joined
  cond-corners true l e = ap length (joined-one l) ∙ e
  cond-corners false l e = refl

  sized-ups : Sized ups (edges o k) (6 * edges o k)
  unfolding hex
  sized-ups = record {
    many = length-where (λ c. cond (up o k c) (hex c ∷ []) []) (up o k) 1 (length k) (λ c. cond-many (up o k c) (hex c)) ∙ omega arith;
    corners = ap length (flat-joined ups ∙ joined-each (λ c. cond (up o k c) (hex c ∷ []) []) (length k))
        ∙ length-where (λ c. joined (cond (up o k c) (hex c ∷ []) [])) (up o k) 6 (length k) (λ c. cond-corners (up o k c) (hex c) (made-long o k (from 0 0 (positions x) 0) chamfer_rule c));
  }

  module _ (S : Shell o k (positions x)) where
    number : Row × ℕ → ℕ
    number = numbered (positions x) (length k) (vx k)

    ups-drawn : ups ≡ drawn number (hexagons o k)
    unfolding hex number made vertex_at vr num
    ups-drawn =
        each-cong (λ c. cond (up o k c) (hex c ∷ []) []) (λ c. map (map number) (cond (up o k c) (hexagon o k c ∷ []) [])) (length k)
        (λ c h. go (up o k c) (hex c) (hexagon o k c) (rw (mt-en S c h)))
        ∙ sym (map_each (map number) (λ c. cond (up o k c) (hexagon o k c ∷ []) []) (length k))
      where
        go : (b : Bool) (l : List ℕ) (q : List (Row × ℕ)) → l ≡ map number q → cond b (l ∷ []) [] ≡ map (map number) (cond b (q ∷ []) [])
        go true l q e = ap (λ z. z ∷ []) e
        go false l q e = refl

    chamfer-drawn : chamfer_faces o k x ≡ drawn number (key_faces o k)
    unfolding chamfer_faces number vertex_at vr num
    chamfer-drawn = ap₂ ◌++◌ (draw-rings o k (from 0 0 (positions x) 0) number (cor Here) (row mid-mid) (λ c. refl)) ups-drawn ∙ sym (map-append (map number) (rings o (row mid-mid)) (hexagons o k))

  pub chamfer-keeps : Shell o k (positions x) → Keeps o k (positions x) (positions x + length k) (chamfer_faces o k x) (4 * edges o k)
  unfolding chamfer_faces number
  chamfer-keeps S =
      let w = twice S in
      let z : Sized (chamfer_faces o k x) (faces o + edges o k) (length k + 6 * edges o k) = sized-append (sized-face o k _ (cor Here) S.surface.shaped) sized-ups in
      let e : positions x + length k ≡ positions x + length k + 0 = omega arith in
      record {
        shell = rw (chamfer-drawn S, e) (shell o k (positions x) S);
        corners = z.corners ∙ omega arith;
        same = omega (arith, z.many);
      }
