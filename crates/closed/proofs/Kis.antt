-- Kis keeps a mesh closed, whichever faces are picked. Assumes nothing.
use Rattle.std.specs.Prelude.{◌≡◌, Bool, get_or, Float}
use Rattle.std.proofs.Math.Path.{refl, sym, ap}
use Rattle.std.proofs.Common.{◌∙◌, subst, true≢false, le_refl}
use Rattle.std.proofs.Math.Bool.{true, false, cond}
use mathlib.Core.List.Memᴰ.{eq_of_singleton as of_one}
use mathlib.Core.List.Memᴰ.{head as here}
use mathlib.Core.List.Memᴰ.{not-nil}
use mathlib.Core.List.Memᴰ.{tail as there}
use mathlib.Core.List.{List, [], ◌∷◌, map, Memᴰ as Mem}
use Prim.Native.Nat.{ℕ, zero, suc, ◌+◌, ◌*◌, ◌≤◌, ◌<◌}
use native.Mathlib.Omega.{arith}
use Rattle.std.proofs.Math.ListN.{length, length-append}
use Rattle.slices.specs.First.{count}
use Rattle.slices.specs.Lists.{each}
use Rattle.mesh.specs.Mesh.{faces, start, arity, run, face_of, next, prev, mate}
use Rattle.mesh.specs.Shape.{In, in-lt, face_of-at, length_run}
use Rattle.mesh.specs.Count.{count-lt, count-inj}
use Rattle.mesh.specs.Edges.{edges}
use Rattle.picks.specs.Picks.{picked}
use Rattle.picks.specs.declared.Mask.{Mask}
use Rattle.rule.specs.Rule.{vertex_at, made, inner, splits, apexed, old as old_at}
use Rattle.rule.specs.Flat.{flat, flat_append, flat-one, flat-each}
use Rattle.rule.specs.Faces.{length-inner}
use Rattle.rule.specs.Named.{from, positions}
use Rattle.rule.specs.declared.Move.TheVariants.{Here}
use Rattle.closed.specs.Keeps.{Shell, Keeps}
use Rattle.closed.specs.Rules.{kis_rule}
use Rattle.closed.specs.Faces.{kis_faces}
use Rattle.closed.specs.Lists.{Nodup, nd0, nd, nodup-nth, joined, joined-each, joined-one, each-cong, map_each, out, also, nothing, length-ones}
use Rattle.closed.specs.Net.{nx<, pv<, mt<, fc<, nx-pv, fc-nx, fc-pv, mt-st, mt-en, solo, nx-inj, st≢, twice}
use Rattle.closed.specs.Layout.{Round, Held, Laid, drawn}
use Rattle.closed.specs.Rule.{Vtx, old, mid, top, Fits, Table, num, numbered, shell-of, apart-rows, old-inj, mid-inj, old≢mid}
use Rattle.closed.specs.Parts.{Chain, written, column, seats-held, ring, ring-round, held-as, each_all, ones-all, draw-ring, made-long}

-- the rim of a face, the corner before the apex, the apex; the last two only where the face is picked
pub data Row : Type 0 where
  rim rise fall : Row

abbrev pub rows_of : Bool → List Row
rows_of true = rim ∷ rise ∷ fall ∷ []
rows_of false = rim ∷ []

abbrev pub Has : Bool → Row → Type 0
Has b rim = b ≡ b
Has b rise = b ≡ true
Has b fall = b ≡ true

has-mem : (b : Bool) (r : Row) → Has b r → Mem r (rows_of b)
has-mem true rim e = here refl
has-mem true rise e = there (here refl)
has-mem true fall e = there (there (here refl))
has-mem false rim e = here refl
has-mem false rise e = absurd (true≢false (sym e))
has-mem false fall e = absurd (true≢false (sym e))

mem-has : (b : Bool) (r : Row) → Mem r (rows_of b) → Has b r
mem-has true = also (Has true) {a = rim} refl (also (Has true) {a = rise} refl (also (Has true) {a = fall} refl (nothing (Has true))))
mem-has false = also (Has false) {a = rim} refl (nothing (Has false))

nth : Row → ℕ
nth rim = 0
nth rise = 1
nth fall = 2

rows-once : (b : Bool) → Nodup (rows_of b)
unfolding nth each
rows-once true = nodup-nth nth (rows_of true) 3 refl
rows-once false = nd not-nil nd0

-- the row by the kinds of the two ends
which : Vtx → Vtx → Row
which (old i) (old j) = rim
which (old i) (mid j) = rise
which (old i) (top j) = rim
which (mid i) y = fall
which (top i) y = rim

-- any pick of faces
module _ (o k : List ℕ) (pick : ℕ → Bool) where
  -- each key with its vertex, the next corner, and the corner across
  unfoldable pub vr : Row → ℕ → Vtx
  vr rim c = old (get_or k c 0)
  vr rise c = old (get_or k (next o c) 0)
  vr fall c = mid (count pick (face_of o c))

  unfoldable pub nr : Row → ℕ → Row × ℕ
  nr rim c = cond (pick (face_of o c)) (rise, c) (rim, next o c)
  nr rise c = (fall, c)
  nr fall c = (rim, c)

  unfoldable pub mr : Row → ℕ → Row × ℕ
  mr rim c = (rim, mate o k c)
  mr rise c = (fall, next o c)
  mr fall c = (rise, prev o c)

  abbrev pub vx : Row × ℕ → Vtx
  vx q = vr q.0 q.1

  abbrev pub nk : Row × ℕ → Row × ℕ
  nk q = nr q.0 q.1

  abbrev pub mk : Row × ℕ → Row × ℕ
  mk q = mr q.0 q.1

  abbrev pub Ok : Row × ℕ → Type 0
  Ok q = Has (pick (face_of o q.1)) q.0 × (q.1 < length k)

  -- the faces of keys: triangles at the corners of a picked face, or the face
  abbrev pub triangle : ℕ → List (Row × ℕ)
  triangle c = (rim, c) ∷ (rise, c) ∷ (fall, c) ∷ []

  abbrev pub panes : Bool → ℕ → List (List (Row × ℕ))
  panes b f = cond b (each (λ j. triangle (start o f + j) ∷ []) (arity o f)) (ring o rim f ∷ [])

  abbrev pub key_faces : List (List (Row × ℕ))
  key_faces = each (λ f. panes (pick f) f) (faces o)

  -- the faces of kis at face f, as the rule has them
  face_at : ℕ → Bool → ℕ → List (List ℕ)
  face_at v t f = cond t (splits (vertex_at o k (apexed (from 0 0 0 v) (count pick f))) kis_rule o f) (inner (vertex_at o k (from 0 0 0 v)) o (old_at Here) f ∷ [])

  module _ (v : ℕ) (S : Shell o k v) where
    fits : (r : Row) (c : ℕ) → Ok (r, c) → Fits v (count pick (faces o)) 0 (vr r c)
    unfolding vr
    fits rim c q = S.inside c q.1
    fits rise c q = S.inside (next o c) (nx< S c q.1)
    fits fall c q = count-lt pick (face_of o c) (faces o) q.0 (fc< S c q.1)

    -- whichever the face, the next vertex on the rim is the next corner's
    rim-next : (c : ℕ) → vx (nk (rim, c)) ≡ old (get_or k (next o c) 0)
    unfolding vr nr
    rim-next c = go (pick (face_of o c))
      where
        go : (b : Bool) → vx (cond b (rise, c) (rim, next o c)) ≡ old (get_or k (next o c) 0)
        go true = refl
        go false = refl

    which-row : (r : Row) (c : ℕ) → which (vr r c) (vx (nr r c)) ≡ r
    unfolding which vr nr
    which-row rim c = ap (which (old (get_or k c 0))) (rim-next c)
    which-row rise c = refl
    which-row fall c = refl

    same-face : (c d : ℕ) → pick (face_of o c) ≡ true → pick (face_of o d) ≡ true → mid (count pick (face_of o c)) ≡ mid (count pick (face_of o d)) → face_of o c ≡ face_of o d
    same-face c d p q e = count-inj pick (face_of o c) (face_of o d) p q (mid-inj e)

    same : (r : Row) (c d : ℕ) → Ok (r, c) → Ok (r, d) → vr r c ≡ vr r d → vx (nr r c) ≡ vx (nr r d) → c ≡ d
    unfolding vr nr
    same rim c d h l p q = S.surface.closed.once c d h.1 l.1 (old-inj p) (old-inj (sym (rim-next c) ∙ q ∙ rim-next d))
    same rise c d h l p q =
        let e = same-face c d h.0 l.0 q in
        nx-inj S h.1 l.1 (solo S (next o c) (next o d) (nx< S c h.1) (nx< S d l.1) (fc-nx S c h.1 ∙ e ∙ sym (fc-nx S d l.1)) (old-inj p))
    same fall c d h l p q = solo S c d h.1 l.1 (same-face c d h.0 l.0 p) (old-inj q)

    paired : (r : Row) (c : ℕ) → Ok (r, c) → Ok (mr r c) × (vx (mr r c) ≡ vx (nr r c)) × (vx (nk (mr r c)) ≡ vr r c)
    unfolding vr nr mr
    paired rim c q = ((refl, mt< S c q.1), ap old (mt-st S c q.1) ∙ sym (rim-next c), rim-next (mate o k c) ∙ ap old (mt-en S c q.1))
    paired rise c q = let e = fc-nx S c q.1 in ((ap pick e ∙ q.0, nx< S c q.1), ap (λ z. mid (count pick z)) e, refl)
    paired fall c q = let e = fc-pv S c q.1 in ((ap pick e ∙ q.0, pv< S c q.1), ap (λ z. old (get_or k z 0)) (nx-pv S c q.1), ap (λ z. mid (count pick z)) e)

    table : Table v (count pick (faces o)) 0 Ok vx nk mk
    table = record {
      fits = λ q. fits q.0 q.1;
      apart = apart-rows Ok vx nk which which-row same;
      paired = λ q. paired q.0 q.1;
    }

    -- ---- the keys of the faces, face by face and corner by corner
    pane-keys : (b : Bool) (f : ℕ) → joined (panes b f) ≡ each (λ j. column (rows_of b) (start o f + j)) (arity o f)
    pane-keys true f = joined-each (λ j. triangle (start o f + j) ∷ []) (arity o f) ∙ each-cong (λ j. joined (triangle (start o f + j) ∷ [])) (λ j. triangle (start o f + j)) (arity o f) (λ j h. joined-one (triangle (start o f + j)))
    pane-keys false f = joined-one (ring o rim f)

    held : Held Ok key_faces
    held = held-as (λ q h. (mem-has _ q.0 h.0, h.1)) (λ q h. (has-mem _ q.0 h.0, h.1))
        (seats-held o (length k) S.surface.shaped (λ f. rows_of (pick f)) key_faces
        (joined-each (λ f. panes (pick f) f) (faces o) ∙ each-cong (λ f. joined (panes (pick f) f)) (λ f. each (λ j. column (rows_of (pick f)) (start o f + j)) (arity o f)) (faces o) (λ f h. pane-keys (pick f) f))
        (λ f. rows-once (pick f)))

    in-at : (f j : ℕ) → f < faces o → j < arity o f → In o f (start o f + j)
    in-at f j h i = record { face = h; from = omega arith; to = omega arith }

    -- ---- each face is round
    pick_at : (b : Bool) (f c : ℕ) → pick f ≡ b → In o f c → pick (face_of o c) ≡ b
    pick_at b f c e i = ap pick (sym (face_of-at o (length k) S.surface.shaped f c i)) ∙ e

    Fine : List (Row × ℕ) → Type 0
    Fine = Round (rim, 0) vx nk

    tri-round : (f c : ℕ) → pick f ≡ true → In o f c → Fine (triangle c)
    unfolding Fine vr nr Chain
    tri-round f c e i =
        let h = in-lt o (length k) S.surface.shaped f c i in
        let p : (rise, c) ≡ nk (rim, c) = ap (λ z. cond z (rise, c) (rim, next o c)) (sym (pick_at true f c e i)) in
        written (rim, 0) vx nk _ _ (omega arith) (p, (refl, refl))
        (nd (out (λ q. st≢ S c h (old-inj q)) (out old≢mid not-nil)) (nd (out old≢mid not-nil) (nd not-nil nd0)))

    rim-round : (f : ℕ) → pick f ≡ false → f < faces o → Fine (ring o rim f)
    unfolding Fine vr nr
    rim-round f e h = ring-round o (length k) S.surface.shaped rim vx nk S.surface.full f h
        (λ c i. ap (λ z. cond z (rise, c) (rim, next o c)) (pick_at false f c e i))
        (λ c d i j q. solo S c d (in-lt o (length k) S.surface.shaped f c i) (in-lt o (length k) S.surface.shaped f d j) (sym (face_of-at o (length k) S.surface.shaped f c i) ∙ face_of-at o (length k) S.surface.shaped f d j) (old-inj q))

    panes-round : (b : Bool) (f : ℕ) → pick f ≡ b → f < faces o → (l : List (Row × ℕ)) → Mem l (panes b f) → Fine l
    panes-round true f e h = ones-all Fine (λ j. triangle (start o f + j)) (arity o f) (λ j i. tri-round f (start o f + j) e (in-at f j h i))
    panes-round false f e h = λ l m. subst Fine (sym (of_one m)) (rim-round f e h)

    abbrev drawing : List (List ℕ)
    drawing = drawn (numbered v (count pick (faces o)) vx) key_faces

    shell : Laid drawing (v + count pick (faces o) + 0)
    unfolding Fine
    shell = shell-of (rim, 0) key_faces table held (each_all Fine (λ f. panes (pick f) f) (faces o) (λ f h. panes-round (pick f) f refl h))

    -- ---- the definition by slots is this drawing
    number : Row × ℕ → ℕ
    number = numbered v (count pick (faces o)) vx

    pane-drawn : (t : Bool) (f : ℕ) → f < faces o → face_at v t f ≡ map (map number) (panes t f)
    unfolding face_at splits made vertex_at number vr num
    pane-drawn true f h =
        each-cong (λ j. made (vertex_at o k (apexed (from 0 0 0 v) (count pick f))) kis_rule (start o f + j) ∷ []) (λ j. map number (triangle (start o f + j)) ∷ []) (arity o f)
        (λ j i. rw (sym (face_of-at o (length k) S.surface.shaped f (start o f + j) (in-at f j h i))))
        ∙ sym (map_each (map number) (λ j. triangle (start o f + j) ∷ []) (arity o f))
    pane-drawn false f h = ap (λ l. l ∷ []) (draw-ring o k (from 0 0 0 v) number (old_at Here) rim (λ c. refl) f)

    faces-drawn : each (λ f. face_at v (pick f) f) (faces o) ≡ drawing
    unfolding number
    faces-drawn = each-cong (λ f. face_at v (pick f) f) (λ f. map (map number) (panes (pick f) f)) (faces o) (λ f h. pane-drawn (pick f) f h) ∙ sym (map_each (map number) (λ f. panes (pick f) f) (faces o))

    -- ---- how many faces and corners
    abbrev corners : ℕ → ℕ
    corners n = length (each (λ f. cond (pick f) (run o k f) []) n)

    pane-sizes : (t : Bool) (f : ℕ) → f < faces o →
        (length (face_at v t f) + cond t 1 0 ≡ 1 + length (cond t (run o k f) [])) × (length (flat (face_at v t f)) ≡ arity o f + 2 * length (cond t (run o k f) []))
    unfolding face_at splits
    pane-sizes true f h =
        let w = length_run o k S.surface.shaped f h in
        let g : ℕ → List ℕ = λ j. made (vertex_at o k (apexed (from 0 0 0 v) (count pick f))) kis_rule (start o f + j) in (
          omega (arith, length-ones g (arity o f)),
          flat-each (λ j. g j ∷ []) 3 (arity o f) (λ j. ap length (flat-one (g j)) ∙ made-long o k (apexed (from 0 0 0 v) (count pick f)) kis_rule (start o f + j)) ∙ omega arith,
        )
    pane-sizes false f h = (refl, ap length (flat-one (inner (vertex_at o k (from 0 0 0 v)) o (old_at Here) f)) ∙ length-inner (vertex_at o k (from 0 0 0 v)) o (old_at Here) f ∙ omega arith)

    sizes : (n : ℕ) → n ≤ faces o →
        (length (each (λ f. face_at v (pick f) f) n) + count pick n ≡ n + corners n) × (length (flat (each (λ f. face_at v (pick f) f) n)) ≡ start o n + 2 * corners n)
    unfolding each flat count
    sizes zero h = (refl, omega (arith, S.surface.shaped.from))
    sizes (suc n) h =
        let l : List (List ℕ) = each (λ f. face_at v (pick f) f) n in
        let a = sizes n (omega arith) in
        let b = pane-sizes (pick n) n h in
        let r = S.surface.shaped.rises n h in
        let c = length-append (each (λ f. cond (pick f) (run o k f) []) n) (cond (pick n) (run o k n) []) in
        let e : start o (n + 1) ≡ start o (suc n) = ap (start o) (omega arith) in (
          omega (arith, a.0, b.0, length-append l (face_at v (pick n) n)),
          ap length (flat_append l (face_at v (pick n) n)) ∙ length-append (flat l) (flat (face_at v (pick n) n)) ∙ omega (arith, a.1, b.1),
        )

-- how many corners the picked faces have
abbrev pub picked_corners : Mask → List ℕ → List ℕ → List ℕ → List ℕ → List Float → ℕ
picked_corners m l n o k x = length (each (λ f. cond (picked m l n o k x f) (run o k f) []) (faces o))

pub kis-keeps :
    (m : Mask) (l n o k : List ℕ) (x : List Float) → Shell o k (positions x) →
    Keeps o k (positions x) (positions x + count (picked m l n o k x) (faces o)) (kis_faces m l n o k x) (edges o k + picked_corners m l n o k x)
unfolding kis_faces face_at
kis-keeps m l n o k x S =
    let pick : ℕ → Bool = picked m l n o k x in
    let w = twice S in
    let z = sizes o k pick (positions x) S (faces o) (le_refl _) in
    let e : positions x + count pick (faces o) ≡ positions x + count pick (faces o) + 0 = omega arith in
    record {
      shell = rw (faces-drawn o k pick (positions x) S, e) (shell o k pick (positions x) S);
      corners = z.1 ∙ omega (arith, S.surface.shaped.last);
      same = omega (arith, z.0);
    }
