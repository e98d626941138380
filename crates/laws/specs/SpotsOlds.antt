-- Laws of the old positions as a section, and of the two passes over them, that no proof of its crate calls. Assumes nothing.
use Rattle.std.specs.Prelude.{◌≡◌, List, ℕ, ◌+◌, ◌*◌, ◌/◌, ◌<◌, ◌≤◌, Float}
use Rattle.std.proofs.Math.Path.{refl, ap}
use Rattle.std.proofs.Common.{sym, ◌∙◌}
use native.Mathlib.Omega.{arith}
use Rattle.std.proofs.Math.ListN.{length}
use Rattle.slices.specs.Lists.{each, length-each}
use Rattle.faces.specs.Face.{point_at, coords_of, put_at}
use Rattle.point.specs.Finite.{first_bad}
use Rattle.point.specs.declared.Point.{Point}
use Rattle.picks.specs.declared.Mask.{Mask}
use Rattle.spots.specs.Points.{change_of, spots_at, places_of, points_of}
use Rattle.spots.specs.Laid.{Laid, laid_none, laid_more, laid-point, laid-room}
use Rattle.spots.specs.declared.Change.{Change}
use Rattle.spots.specs.declared.Points.{Points}
use Rattle.spots.specs.declared.Points.TheVariants.{Olds}
use Rattle.laws.specs.SpotsLaid.{Clean, clean-none, clean-done, clean-more, bad-step}

module _ (s : Change) (t : Float) (x : List Float) where
  abbrev old_at : ℕ → List Float
  old_at i = coords_of (change_of s t (point_at x i))

  -- the coordinates of the first n
  unfoldable pub olds_to : ℕ → List Float
  olds_to n = each old_at n

  -- all of them are the section
  pub olds-are : (h : Float) (m : Mask) (a b o k : List ℕ) (q : Points) → q ≡ Olds s → olds_to (length x / 3) ≡ points_of q t h m a b o k x
  unfolding olds_to points_of spots_at places_of
  olds-are h m a b o k q e = rw e refl

  length-olds : (n : ℕ) → length (olds_to n) ≡ 3 * n
  unfolding olds_to
  length-olds n = length-each old_at 3 n (λ i. refl)

  -- room for the section is room for three coordinates a position
  pub olds-fit : (h : Float) (m : Mask) (a b o k : List ℕ) (q : Points) → q ≡ Olds s → (v r : ℕ) → 3 * v + length (points_of q t h m a b o k x) ≤ r → 3 * v + 3 * (length x / 3) ≤ r
  olds-fit h m a b o k q e v r w =
      let z : length (points_of q t h m a b o k x) ≡ 3 * (length x / 3) = ap length (sym (olds-are h m a b o k q e)) ∙ length-olds (length x / 3) in
      omega arith

  -- ---- none yet
  pub olds-clean-none : Clean (olds_to 0)
  unfolding olds_to each
  olds-clean-none = clean-none

  pub olds-laid-none : (out : List Float) (v : ℕ) → Laid out v (olds_to 0) out v
  unfolding olds_to each
  olds-laid-none out v = laid_none out v

  -- ---- one more, the point p
  module _ (i : ℕ) (p : Point) (e : p ≡ change_of s t (point_at x i)) where
    pub olds-bad : (n j : ℕ) → i < n → Clean (olds_to i) → j ≡ first_bad (coords_of p) → j < 3 → 3 * i + j ≡ first_bad (olds_to n)
    unfolding olds_to
    olds-bad n j l c f u = ap (λ (z : ℕ). z + j) (sym (length-olds i)) ∙ bad-step old_at i n j l c (f ∙ ap (λ (y : Point). first_bad (coords_of y)) e) u

    pub olds-fine : (j : ℕ) → Clean (olds_to i) → j ≡ first_bad (coords_of p) → 3 ≤ j → Clean (olds_to (i + 1))
    unfolding olds_to
    olds-fine j c f u = clean-more old_at i j c (f ∙ ap (λ (y : Point). first_bad (coords_of y)) e) u

    pub olds-laid-more : (out out' out'' : List Float) (v v' : ℕ) → Laid out v (olds_to i) out' v' → out'' ≡ put_at out' v' p → Laid out v (olds_to (i + 1)) out'' (v' + 1)
    unfolding olds_to
    olds-laid-more out out' out'' v v' c f = laid_more old_at i c (laid-point out' out'' (old_at i) v' p (ap coords_of e) f)

  pub olds-room : (out out' : List Float) (i n v v' : ℕ) → i < n → 3 * v + 3 * n ≤ length out → Laid out v (olds_to i) out' v' → v' * 3 + 3 ≤ length out'
  unfolding olds_to
  olds-room out out' i n v v' l r c =
      let w : 3 * v' + 3 ≤ length out' = laid-room old_at i n l (let z = length-olds n in omega arith) c in
      omega arith

  -- ---- all
  pub olds-clean : (n : ℕ) → Clean (olds_to n) → 3 * n ≡ first_bad (olds_to n)
  olds-clean n c = sym (length-olds n) ∙ clean-done (olds_to n) c
