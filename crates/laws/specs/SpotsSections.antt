-- Laws of the two passes over a section of points, from their parts, that no proof of its crate calls. Assumes nothing.
-- Assumes nothing.
use Rattle.std.specs.Prelude.{◌≡◌, refl, ℕ, ◌+◌, ◌*◌, ◌<◌, ◌≤◌, Float}
use Rattle.std.proofs.Common.{sym, ◌∙◌, ⊎_elim, eq-or-lt_of_le}
use Rattle.std.proofs.Math.Path.{ap, subst}
use mathlib.Core.List.{List, [], ◌++◌}
use native.Mathlib.Omega.{arith}
use Rattle.std.proofs.Math.ListN.{length, length-append}
use Rattle.slices.specs.Lists.{each, each_more}
use Rattle.faces.specs.Face.{coords_of, put_at}
use Rattle.point.specs.Finite.{first_bad}
use Rattle.picks.specs.declared.Mask.{Mask}
use Rattle.spots.specs.Points.{spots_at, places_of, points_of}
use Rattle.spots.specs.Laid.{Laid, laid_none, laid_then, laid_more, laid-point, laid-room}
use Rattle.spots.specs.Spots.{list_of, Holds}
use Rattle.spots.specs.declared.Points.{Points}
use Rattle.spots.specs.declared.Spots.{Spots}
use Rattle.laws.specs.SpotsLaid.{Clean, clean-none, clean-done, clean-more, bad-front, bad-both, bad-step}
use Rattle.laws.specs.SpotsSpots.{n_of, p_of, q_of, list-none, list-one, list-two, length-holds}

-- ---- what a section has at one place: the first coordinate that is not finite
module _ (s : Spots) where
  pub bad-none : n_of s ≡ 0 → 0 ≡ first_bad (list_of s)
  bad-none e = clean-done [] clean-none ∙ ap first_bad (sym (list-none s e))

  pub bad-here : (i : ℕ) → n_of s ≤ 2 → (n_of s ≡ 0 → ⊥) → i ≡ first_bad (coords_of (p_of s)) → i < 3 → i ≡ first_bad (list_of s)
  bad-here i h z e l =
      ⊎_elim
      (λ w. bad-front (coords_of (p_of s)) (coords_of (q_of s)) i e l ∙ ap first_bad (sym (list-two s w)))
      (λ w. let v : n_of s ≡ 1 = omega arith in e ∙ ap first_bad (sym (list-one s v)))
      (eq-or-lt_of_le h)

  pub bad-one : (i : ℕ) → n_of s ≡ 1 → i ≡ first_bad (coords_of (p_of s)) → 3 ≤ i → 3 ≡ first_bad (list_of s)
  bad-one i w e l = clean-done (coords_of (p_of s)) (rw e at l) ∙ ap first_bad (sym (list-one s w))

  pub bad-two : (i j : ℕ) → n_of s ≤ 2 → (n_of s ≡ 0 → ⊥) → (n_of s ≡ 1 → ⊥) → i ≡ first_bad (coords_of (p_of s)) → 3 ≤ i → j ≡ first_bad (coords_of (q_of s)) → 3 + j ≡ first_bad (list_of s)
  bad-two i j h z y e l f =
      let w : n_of s ≡ 2 = omega arith in
      bad-both (coords_of (p_of s)) (coords_of (q_of s)) j (rw e at l) f ∙ ap first_bad (sym (list-two s w))

  -- and it is written
  pub put-none : (out : List Float) (v : ℕ) → n_of s ≡ 0 → Laid out v (list_of s) out v
  put-none out v e = subst (λ (l : List Float). Laid out v l out v) (sym (list-none s e)) (laid_none out v)

  pub put_one : (out out' : List Float) (v : ℕ) → n_of s ≡ 1 → out' ≡ put_at out v (p_of s) → Laid out v (list_of s) out' (v + 1)
  put_one out out' v e p = laid-point out out' (list_of s) v (p_of s) (sym (list-one s e)) p

  pub put_two : (out out' out'' : List Float) (v v' v'' : ℕ) → n_of s ≤ 2 → (n_of s ≡ 0 → ⊥) → (n_of s ≡ 1 → ⊥) → v' ≡ v + 1 → v'' ≡ v + 2
      → out' ≡ put_at out v (p_of s) → out'' ≡ put_at out' v' (q_of s) → Laid out v (list_of s) out'' v''
  put_two out out' out'' v v' v'' h z y a b p q =
      let e : n_of s ≡ 2 = omega arith in
      let l : Laid out v (coords_of (p_of s)) out' v' = subst (Laid out v (coords_of (p_of s)) out') (sym a) (laid-point out out' (coords_of (p_of s)) v (p_of s) refl p) in
      let m : Laid out' v' (coords_of (q_of s)) out'' (v' + 1) = laid-point out' out'' (coords_of (q_of s)) v' (q_of s) refl q in
      let w : v' + 1 ≡ v'' = omega arith in
      subst (λ (r : List Float). Laid out v r out'' v'') (sym (list-two s e)) (subst (Laid out v (coords_of (p_of s) ++ coords_of (q_of s)) out'') w (laid_then l m))

-- ---- the two passes over a section
module _ (q : Points) (t h : Float) (m : Mask) (a b o k : List ℕ) (x : List Float) where
  -- what it has at the first i places
  pub so_far : ℕ → List Float
  so_far i = each (spots_at q t h m a b o k x) i

  pub none_yet : (0 ≡ length (so_far 0)) × Clean (so_far 0)
  unfolding so_far each
  none_yet = (refl, clean-none)

  pub none-laid : (out : List Float) (v : ℕ) → Laid out v (so_far 0) out v
  unfolding so_far each
  none-laid out v = laid_none out v

  module _ (i : ℕ) (s : Spots) (g : Holds s (spots_at q t h m a b o k x i)) where
    pub points-bad : (n at j w : ℕ) → n ≡ places_of q o k x → i < n → at ≡ length (so_far i) → Clean (so_far i) → j ≡ first_bad (list_of s) → w ≡ 3 * n_of s → j < w → at + j ≡ first_bad (points_of q t h m a b o k x)
    unfolding so_far points_of
    points-bad n at j w e l p c f d u =
        let y : length (spots_at q t h m a b o k x i) ≡ 3 * n_of s = length-holds s g in
        ap (λ (z : ℕ). z + j) p
        ∙ bad-step (spots_at q t h m a b o k x) i n j l c (f ∙ ap first_bad g) (omega arith)
        ∙ ap (λ (z : ℕ). first_bad (each (spots_at q t h m a b o k x) z)) e

    pub points-fine : (at j w : ℕ) → at ≡ length (so_far i) → Clean (so_far i) → j ≡ first_bad (list_of s) → w ≡ 3 * n_of s → w ≤ j → (at + w ≡ length (so_far (i + 1))) × Clean (so_far (i + 1))
    unfolding so_far
    points-fine at j w p c f d u =
        let y : length (spots_at q t h m a b o k x i) ≡ 3 * n_of s = length-holds s g in
        let z : length (each (spots_at q t h m a b o k x) (i + 1)) ≡ length (each (spots_at q t h m a b o k x) i) + length (spots_at q t h m a b o k x i) =
        ap length (each_more (spots_at q t h m a b o k x) i) ∙ length-append (each (spots_at q t h m a b o k x) i) (spots_at q t h m a b o k x i) in
        (omega arith, clean-more (spots_at q t h m a b o k x) i j c (f ∙ ap first_bad g) (omega arith))

    pub points-room : (out out' : List Float) (n v v' : ℕ) → n ≡ places_of q o k x → i < n → 3 * v + length (points_of q t h m a b o k x) ≤ length out → Laid out v (so_far i) out' v' → 3 * v' + 3 * n_of s ≤ length out'
    unfolding so_far points_of
    points-room out out' n v v' e l r d =
        let y : length (spots_at q t h m a b o k x i) ≡ 3 * n_of s = length-holds s g in
        let z = laid-room (spots_at q t h m a b o k x) i (places_of q o k x) (rw e at l) r d in
        omega arith

    pub points-more : (out out' out'' : List Float) (v v' v'' : ℕ) → Laid out v (so_far i) out' v' → Laid out' v' (list_of s) out'' v'' → Laid out v (so_far (i + 1)) out'' v''
    unfolding so_far
    points-more out out' out'' v v' v'' c d =
        laid_more (spots_at q t h m a b o k x) i c (subst (λ (l : List Float). Laid out' v' l out'' v'') g d)

  pub points-clean : (i at : ℕ) → i ≡ places_of q o k x → at ≡ length (so_far i) → Clean (so_far i) → at ≡ first_bad (points_of q t h m a b o k x)
  unfolding so_far points_of
  points-clean i at e p c =
      p ∙ clean-done (each (spots_at q t h m a b o k x) i) c ∙ ap (λ (z : ℕ). first_bad (each (spots_at q t h m a b o k x) z)) e

  pub points-laid : (out out' : List Float) (i v v' : ℕ) → i ≡ places_of q o k x → Laid out v (so_far i) out' v' → Laid out v (points_of q t h m a b o k x) out' v'
  unfolding so_far points_of
  points-laid out out' i v v' e c = subst (λ (z : ℕ). Laid out v (each (spots_at q t h m a b o k x) z) out' v') e c
