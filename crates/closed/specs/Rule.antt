-- A drawing with named vertices: old ones, then the middle ones, then the top ones. One theorem takes a table of keys to a closed mesh. Assumes nothing.
use Rattle.std.specs.Prelude.{◌≡◌, ◌≢◌, ℕ, ◌+◌, ◌<◌, length, get_or}
use Rattle.std.proofs.Common.{sym, ap₂, ◌∙◌, subst}
use Rattle.std.proofs.Math.Path.{ap}
use mathlib.Core.List.{List, Memᴰ as Mem}
use native.Mathlib.Omega.{arith}
use Rattle.mesh.specs.Mesh.{face_of}
use Rattle.mesh.specs.Edges.{rank}
use Rattle.rule.specs.Rule.{moved}
use Rattle.rule.specs.declared.Slot.{Slot}
use Rattle.rule.specs.declared.Kind.{Kind}
use Rattle.rule.specs.declared.Kind.TheVariants.{Old, Dir, Edge, Cor, Face, Apex}
use Rattle.closed.specs.Keeps.{Shell}
use Rattle.closed.specs.Lists.{mem-joined, get_d-mem}
use Rattle.closed.specs.Net.{dir_of, dir-inj}
use Rattle.closed.specs.Layout.{Round, Held, Matched, Laid, drawn, shell-laid}

pub data Vtx : Type 0 where
  old mid top : ℕ → Vtx

-- v old ones, then m middle ones, then t top ones
unfoldable pub num : ℕ → ℕ → Vtx → ℕ
num v m (old i) = i
num v m (mid i) = v + i
num v m (top i) = v + m + i

abbrev pub Fits : ℕ → ℕ → ℕ → Vtx → Type 0
Fits v m t (old i) = i < v
Fits v m t (mid i) = i < m
Fits v m t (top i) = i < t

module _ (v m t : ℕ) where
  num-lt : (x : Vtx) → Fits v m t x → num v m x < v + m + t
  unfolding num
  num-lt (old i) h = omega arith
  num-lt (mid i) h = omega arith
  num-lt (top i) h = omega arith

  num-inj : (x y : Vtx) → Fits v m t x → Fits v m t y → num v m x ≡ num v m y → x ≡ y
  unfolding num
  num-inj (old i) (old j) h k e = ap old e
  num-inj (old i) (mid j) h k e = absurd (omega arith)
  num-inj (old i) (top j) h k e = absurd (omega arith)
  num-inj (mid i) (old j) h k e = absurd (omega arith)
  num-inj (mid i) (mid j) h k e = ap mid (omega arith)
  num-inj (mid i) (top j) h k e = absurd (omega arith)
  num-inj (top i) (old j) h k e = absurd (omega arith)
  num-inj (top i) (mid j) h k e = absurd (omega arith)
  num-inj (top i) (top j) h k e = ap top (omega arith)

abbrev at : Vtx → ℕ
at (old i) = i
at (mid i) = i
at (top i) = i

abbrev kind : Vtx → ℕ
kind (old i) = 0
kind (mid i) = 1
kind (top i) = 2

pub old-inj : {i j : ℕ} → old i ≡ old j → i ≡ j
old-inj e = ap at e

pub mid-inj : {i j : ℕ} → mid i ≡ mid j → i ≡ j
mid-inj e = ap at e

pub top-inj : {i j : ℕ} → top i ≡ top j → i ≡ j
top-inj e = ap at e

pub old≢mid : {i j : ℕ} → old i ≢ mid j
old≢mid e = omega (arith, ap kind e)

pub old≢top : {i j : ℕ} → old i ≢ top j
old≢top e = omega (arith, ap kind e)

pub mid≢top : {i j : ℕ} → mid i ≢ top j
mid≢top e = omega (arith, ap kind e)

pub mid≢old : {i j : ℕ} → mid i ≢ old j
mid≢old e = omega (arith, ap kind e)

pub top≢mid : {i j : ℕ} → top i ≢ mid j
top≢mid e = omega (arith, ap kind e)

pub top≢old : {i j : ℕ} → top i ≢ old j
top≢old e = omega (arith, ap kind e)

-- the vertex that a slot names at a corner, by its kind: t says whether those of corners are middle or top ones
abbrev pub name_of : (ℕ → Vtx) → List ℕ → List ℕ → Kind → ℕ → Vtx
name_of t o k Old c = old (get_or k c 0)
name_of t o k Dir c = top (dir_of o k c)
name_of t o k Edge c = mid (rank o k c)
name_of t o k Cor c = t c
name_of t o k Face c = mid (face_of o c)
name_of t o k Apex c = mid (face_of o c)

abbrev pub slot_at : (ℕ → Vtx) → List ℕ → List ℕ → Slot → ℕ → Vtx
slot_at t o k s c = name_of t o k s.kind (moved o k s.at c)

-- the top ones of directed edges tell the corners
module _ {o k : List ℕ} {v : ℕ} (S : Shell o k v) {c d : ℕ} (h : c < length k) (l : d < length k) where
  pub dirs-inj : top (dir_of o k c) ≡ top (dir_of o k d) → c ≡ d
  dirs-inj e = dir-inj S h l (top-inj e)

  pub dirs≢ : c ≢ d → top (dir_of o k c) ≢ top (dir_of o k d)
  dirs≢ n e = n (dirs-inj e)

-- ---- the table of a rule: the vertex at each key, the next key and the mate, and what is to be known of them
pub record Table {K : Type 0} (v m t : ℕ) (Ok : K → Type 0) (vx : K → Vtx) (nk mk : K → K) : Type 0 where
  pub fits : (k : K) → Ok k → Fits v m t (vx k)
  pub apart : (k l : K) → Ok k → Ok l → vx k ≡ vx l → vx (nk k) ≡ vx (nk l) → k ≡ l
  pub paired : (k : K) → Ok k → Ok (mk k) × (vx (mk k) ≡ vx (nk k)) × (vx (nk (mk k)) ≡ vx k)

-- the number of a key
abbrev pub numbered : {K : Type 0} → ℕ → ℕ → (K → Vtx) → K → ℕ
numbered v m vx k = num v m (vx k)

-- the one theorem: faces that hold the keys of a table, each once, lie flat as a closed mesh
module _ {K : Type 0} {v m t : ℕ} {Ok : K → Type 0} {vx : K → Vtx} {nk mk : K → K} (d : K) (fs : List (List K)) where
  matched : Table v m t Ok vx nk mk → Matched (v + m + t) Ok (numbered v m vx) nk mk
  matched T = record {
    inside = λ k h. num-lt v m t (vx k) (T.fits k h);
    apart = λ k l h i h' i' p q. T.apart k l h i (num-inj v m t (vx k) (vx l) (T.fits k h) (T.fits l i) p) (num-inj v m t (vx (nk k)) (vx (nk l)) (T.fits (nk k) h') (T.fits (nk l) i') q);
    paired = λ k h. let r = T.paired k h in (r.0, ap (num v m) r.1, ap (num v m) r.2);
  }

  rounded : Table v m t Ok vx nk mk → (f : List K) → ((k : K) → Mem k f → Ok k) → Round d vx nk f → Round d (numbered v m vx) nk f
  rounded T f o r = record {
    three = r.three;
    on = r.on;
    back = r.back;
    simple = λ i j h l e. r.simple i j h l (num-inj v m t _ _ (T.fits (get_or f i d) (o _ (get_d-mem f i d h))) (T.fits (get_or f j d) (o _ (get_d-mem f j d l))) e);
  }

  pub shell-of : Table v m t Ok vx nk mk → Held Ok fs → ((f : List K) → Mem f fs → Round d vx nk f) → Laid (drawn (numbered v m vx) fs) (v + m + t)
  shell-of T H R = shell-laid d (numbered v m vx) fs (λ f h. rounded T f (λ k j. H.only k (mem-joined h j)) (R f h)) H (matched T)

-- ---- rows told apart by the kinds of the two ends
pub apart-rows :
    {R : Type 0} (Ok : R × ℕ → Type 0) (vx : R × ℕ → Vtx) (nk : R × ℕ → R × ℕ) (which : Vtx → Vtx → R) → ((r : R) (c : ℕ) → which (vx (r, c)) (vx (nk (r, c))) ≡ r) →
    ((r : R) (c d : ℕ) → Ok (r, c) → Ok (r, d) → vx (r, c) ≡ vx (r, d) → vx (nk (r, c)) ≡ vx (nk (r, d)) → c ≡ d) →
    (k l : R × ℕ) → Ok k → Ok l → vx k ≡ vx l → vx (nk k) ≡ vx (nk l) → k ≡ l
apart-rows {R} Ok vx nk which w f k l h i p q =
    let d : ℕ = l.1 in
    let e : l.0 ≡ k.0 = sym (w l.0 d) ∙ ap₂ which (sym p) (sym q) ∙ w k.0 k.1 in
    let g : k.1 ≡ d = f k.0 k.1 d h (subst (λ r. Ok (r, d)) e i) (p ∙ ap (λ r. vx (r, d)) e) (q ∙ ap (λ r. vx (nk (r, d))) e) in
    λ z. (sym e z, g z)

-- but for some more rows of one kind
pub data Rows (G X : Type 0) : Type 0 where
  row : G → Rows G X
  more : X → Rows G X

-- every row at every corner
abbrev pub At : {R : Type 0} → ℕ → R × ℕ → Type 0
At n k = k.1 < n

module _ {G X : Type 0} (n : ℕ) (vx : Rows G X × ℕ → Vtx) (nk : Rows G X × ℕ → Rows G X × ℕ) where
  -- the same edge at two keys
  abbrev pub Same : Rows G X × ℕ → Rows G X × ℕ → Type 0
  Same k l = (vx k ≡ vx l) × (vx (nk k) ≡ vx (nk l))

  -- which is the row that the kinds of two ends tell, and γ the one that has more of its kind
  pub record Told (which : Vtx → Vtx → G) (γ : G) : Type 0 where
    pub which-row : (g : G) (c : ℕ) → which (vx (row g, c)) (vx (nk (row g, c))) ≡ g
    pub which-more : (x : X) (c : ℕ) → which (vx (more x, c)) (vx (nk (more x, c))) ≡ γ
    pub same : (g : G) (c d : ℕ) → c < n → d < n → Same (row g, c) (row g, d) → c ≡ d
    pub same_more : (x y : X) (c d : ℕ) → c < n → d < n → Same (more x, c) (more y, d) → ◌≡◌ {A = Rows G X × ℕ} (more x, c) (more y, d)
    pub clash : (x : X) (c d : ℕ) → c < n → d < n → Same (row γ, c) (more x, d) → ⊥

  module _ (which : Vtx → Vtx → G) (γ : G) (T : Told which γ) where
    told : (r s : Rows G X) (c d : ℕ) → c < n → d < n → Same (r, c) (s, d) → ◌≡◌ {A = Rows G X × ℕ} (r, c) (s, d)
    told (row i) (row j) c d h l p =
        let e : i ≡ j = sym (T.which-row i c) ∙ ap₂ which p.0 p.1 ∙ T.which-row j d in
        let q = T.same i c d h l (subst (λ z. Same (row i, c) (row z, d)) (sym e) p) in
        λ z. (row (e z), q z)
    told (row i) (more y) c d h l p =
        let e : i ≡ γ = sym (T.which-row i c) ∙ ap₂ which p.0 p.1 ∙ T.which-more y d in
        absurd (T.clash y c d h l (subst (λ z. Same (row z, c) (more y, d)) e p))
    told (more x) (row j) c d h l p =
        let e : j ≡ γ = sym (T.which-row j d) ∙ ap₂ which (sym p.0) (sym p.1) ∙ T.which-more x c in
        absurd (T.clash x d c l h (subst (λ z. Same (row z, d) (more x, c)) e (sym p.0, sym p.1)))
    told (more x) (more y) c d h l p = T.same_more x y c d h l p

    pub apart_by : (k l : Rows G X × ℕ) → At n k → At n l → vx k ≡ vx l → vx (nk k) ≡ vx (nk l) → k ≡ l
    apart_by k l h i p q = told k.0 l.0 k.1 l.1 h i (p, q)
