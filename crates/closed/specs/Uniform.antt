-- The rules that make a face inside each old face and a face at each corner. Assumes nothing.
use Rattle.std.specs.Prelude.{◌≡◌, cond, ℕ, ◌+◌, ◌<◌, length, get_or, eqb}
use Rattle.std.proofs.Common.{sym, ap₂, ◌∙◌, inl, inr, ⊎_elim}
use mathlib.Core.List.Memᴰ.{append_cases}
use mathlib.Core.List.Memᴰ.{cast}
use mathlib.Core.List.Memᴰ.{eq_of_singleton as of_one}
use mathlib.Core.List.{List, [], ◌∷◌, ◌++◌, map, Memᴰ as Mem}
use Rattle.mesh.specs.Mesh.{next}
use Rattle.rule.specs.Rule.{vertex_at, made}
use Rattle.rule.specs.Named.{per_corner, per_face}
use Rattle.rule.specs.declared.Slot.{Slot}
use Rattle.rule.specs.declared.Bases.{Bases}
use Rattle.closed.specs.Keeps.{Shell}
use Rattle.closed.specs.Lists.{Nodup, nodup-head, nodup-tail, map-append}
use Rattle.closed.specs.Layout.{Round, Held, Laid, drawn}
use Rattle.closed.specs.Rule.{Vtx, Table, At, numbered, shell-of}
use Rattle.closed.specs.Parts.{column, columns, columns-held, rings, rings-held, rings-round, held-as, held-append, held-swap, ones-all, append-all, draw-corners, draw-rings}

-- the next key, where the rows are numbered from the row of the inner faces on: round the old face, or on to the next row of the face at the corner
abbrev pub onward : {R : Type 0} → List ℕ → R → List R → (R → ℕ) → R → ℕ → R × ℕ
onward o first rows nth r c = cond (eqb (nth r) 0) (r, next o c) (get_or rows (nth r) first, c)

-- a row ι for the faces inside, and rows for the face at a corner
pub record Uniform (o k : List ℕ) (v m t : ℕ) {R : Type 0} (ι : R) (rows : List R) (vx : R × ℕ → Vtx) (nk mk : R × ℕ → R × ℕ) : Type 0 where
  pub rows-once : Nodup (ι ∷ rows)
  pub rows_all : (r : R) → Mem r (ι ∷ rows)
  pub inner-next : (c : ℕ) → nk (ι, c) ≡ (ι, next o c)
  pub inner-apart : (c d : ℕ) → c < length k → d < length k → vx (ι, c) ≡ vx (ι, d) → c ≡ d
  pub round : (c : ℕ) → c < length k → Round (ι, 0) vx nk (column rows c)
  pub table : Table v m t (At (length k)) vx nk mk

module _ {o k : List ℕ} {v m t : ℕ} {R : Type 0} {ι : R} {rows : List R} {vx : R × ℕ → Vtx} {nk mk : R × ℕ → R × ℕ} (S : Shell o k v) (U : Uniform o k v m t ι rows vx nk mk) where
  inside : (f : List (R × ℕ)) → Mem f (rings o ι) → Round (ι, 0) vx nk f
  inside = rings-round o (length k) S.surface.shaped ι vx nk S.surface.full U.inner-next U.inner-apart

  outside : (f : List (R × ℕ)) → Mem f (columns rows (length k)) → Round (ι, 0) vx nk f
  outside = ones-all (Round (ι, 0) vx nk) (column rows) (length k) U.round

  -- the inner faces first
  held_first : Held (At (length k)) (rings o ι ++ columns rows (length k))
  held_first = held-as (λ q. ⊎_elim (λ a. a.1) (λ a. a.1)) (λ q h. ⊎_elim (λ a. inl (a, h)) (λ a. inr (a, h)) (append_cases (ι ∷ []) (U.rows_all q.0)))
      (held-append (rings o ι) (columns rows (length k)) (λ q a b. nodup-head U.rows-once (cast (sym (of_one a.0)) b.0))
      (rings-held o (length k) S.surface.shaped ι) (columns-held rows (length k) (nodup-tail U.rows-once)))

  pub shell-first : Laid (drawn (numbered v m vx) (rings o ι ++ columns rows (length k))) (v + m + t)
  shell-first = shell-of (ι, 0) (rings o ι ++ columns rows (length k)) U.table held_first (append-all (Round (ι, 0) vx nk) (rings o ι) (columns rows (length k)) inside outside)

  -- or last
  pub shell-last : Laid (drawn (numbered v m vx) (columns rows (length k) ++ rings o ι)) (v + m + t)
  shell-last = shell-of (ι, 0) (columns rows (length k) ++ rings o ι) U.table (held-swap (rings o ι) (columns rows (length k)) held_first) (append-all (Round (ι, 0) vx nk) (columns rows (length k)) (rings o ι) outside inside)

-- the definitions by slots are such drawings
module _ (o k : List ℕ) (b : Bases) (s : Slot) (rule : List Slot) {R : Type 0} (number : R × ℕ → ℕ) (ι : R) (rows : List R)
    (p : (c : ℕ) → vertex_at o k b s c ≡ number (ι, c)) (q : (c : ℕ) → c < length k → made (vertex_at o k b) rule c ≡ map number (column rows c)) where
  pub draw-first : per_face b s o k ++ per_corner b rule o k ≡ drawn number (rings o ι ++ columns rows (length k))
  draw-first = ap₂ ◌++◌ (draw-rings o k b number s ι p) (draw-corners o k b number rule rows q) ∙ sym (map-append (map number) (rings o ι) (columns rows (length k)))

  pub draw-last : per_corner b rule o k ++ per_face b s o k ≡ drawn number (columns rows (length k) ++ rings o ι)
  draw-last = ap₂ ◌++◌ (draw-corners o k b number rule rows q) (draw-rings o k b number s ι p) ∙ sym (map-append (map number) (columns rows (length k)) (rings o ι))
