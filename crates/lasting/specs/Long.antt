-- How many coordinates the six operators make: three for each position that their faces are on. Assumes nothing.
use Rattle.std.specs.Prelude.{◌≡◌, List, ◌++◌, ℕ, ◌+◌, ◌*◌, length, Float}
use Rattle.std.proofs.Common.{◌∙◌, arith, length-append}
use Rattle.slices.specs.First.{count}
use Rattle.slices.specs.Lists.{zero_f}
use Rattle.mesh.specs.Mesh.{faces}
use Rattle.mesh.specs.Edges.{edges}
use Rattle.picks.specs.Picks.{picked}
use Rattle.picks.specs.declared.Mask.{Mask}
use Rattle.spots.specs.Points.{points_of, spots_at, places_of, width_of}
use Rattle.spots.specs.Sections.{length-points}
use Rattle.spots.specs.declared.Change.{Change}
use Rattle.spots.specs.declared.Change.TheVariants.{Kept, Scaled}
use Rattle.spots.specs.declared.Spot.{Spot}
use Rattle.spots.specs.declared.Spot.TheVariants.{Apex, Crown}
use Rattle.spots.specs.declared.Tip.{Tip}
use Rattle.spots.specs.declared.Tip.TheVariants.{Inset, Swirl, Third}
use Rattle.spots.specs.declared.Middle.{Middle}
use Rattle.spots.specs.declared.Middle.TheVariants.{Sum}
use Rattle.spots.specs.declared.Points.TheVariants.{Olds, Faces, Picks, Corners, Pairs, Middles}
use Rattle.rule.specs.Named.{positions}
use Rattle.operators.specs.Sections.{olds, face_points, pick_points, corner_points, edge_pairs, edge_middles}
use Rattle.operators.specs.Operators.{kept, kis_coords, chamfer_coords, gyro_coords, propellor_coords, whirl_coords, quinto_coords}

-- a list of sections that make a points and then b
two : (xs ys : List Float) (a b : ℕ) → length xs ≡ 3 * a → length ys ≡ 3 * b → length (xs ++ ys) ≡ 3 * (a + b)
two xs ys a b e f = length-append xs ys ∙ omega (arith, e, f)

three : (xs ys zs : List Float) (a b c : ℕ) → length xs ≡ 3 * a → length ys ≡ 3 * b → length zs ≡ 3 * c → length (xs ++ (ys ++ zs)) ≡ 3 * (a + b + c)
three xs ys zs a b c e f g = length-append xs (ys ++ zs) ∙ omega (arith, e, two ys zs b c f g)

-- the sections by their names; which masks stand beside them does not matter where none is asked
module _ (m : Mask) (l n o k : List ℕ) (x : List Float) where
  long-olds : (s : Change) (t : Float) → length (olds s t x) ≡ 3 * positions x
  unfolding points_of spots_at places_of width_of
  long-olds s t = length-points (Olds s) t zero_f m l n o k x

  long-faces : (s : Spot) (h : Float) → length (face_points s h o k x) ≡ 3 * faces o
  unfolding points_of spots_at places_of width_of
  long-faces s h = length-points (Faces s) zero_f h m l n o k x

  long-picks : (s : Spot) (h : Float) → length (pick_points m l n s h o k x) ≡ 3 * count (picked m l n o k x) (faces o)
  unfolding points_of spots_at places_of width_of
  long-picks s h = length-points (Picks s) zero_f h m l n o k x

  long-corners : (s : Tip) (t h : Float) → length (corner_points s t h o k x) ≡ 3 * length k
  unfolding points_of spots_at places_of width_of
  long-corners s t h = length-points (Corners s) t h m l n o k x

  long-pairs : (t : Float) → length (edge_pairs t o k x) ≡ 3 * (2 * edges o k)
  unfolding points_of spots_at places_of width_of
  long-pairs t = length-points Pairs t zero_f m l n o k x

  long-middles : (s : Middle) (t h : Float) → length (edge_middles s t h o k x) ≡ 3 * edges o k
  unfolding points_of spots_at places_of width_of
  long-middles s t h = length-points (Middles s) t h m l n o k x

  -- ---- the six
  pub kis-long : (h : Float) → length (kis_coords m l n h o k x) ≡ 3 * (positions x + count (picked m l n o k x) (faces o))
  unfolding kis_coords
  kis-long h = two (kept x) (pick_points m l n Apex h o k x) _ _ (long-olds Kept zero_f) (long-picks Apex h)

  pub chamfer-long : (t : Float) → length (chamfer_coords t o k x) ≡ 3 * (positions x + length k)
  unfolding chamfer_coords
  chamfer-long t = two (olds Scaled t x) (corner_points Inset t zero_f o k x) _ _ (long-olds Scaled t) (long-corners Inset t zero_f)

  pub propellor-long : (t : Float) → length (propellor_coords t o k x) ≡ 3 * (positions x + 2 * edges o k)
  unfolding propellor_coords
  propellor-long t = two (kept x) (edge_pairs t o k x) _ _ (long-olds Kept zero_f) (long-pairs t)

  pub gyro-long : (t h : Float) → length (gyro_coords t h o k x) ≡ 3 * (positions x + faces o + 2 * edges o k)
  unfolding gyro_coords
  gyro-long t h = three (kept x) (face_points Crown h o k x) (edge_pairs t o k x) _ _ _ (long-olds Kept zero_f) (long-faces Crown h) (long-pairs t)

  pub whirl-long : (t h : Float) → length (whirl_coords t h o k x) ≡ 3 * (positions x + length k + 2 * edges o k)
  unfolding whirl_coords
  whirl-long t h = three (kept x) (corner_points Swirl t h o k x) (edge_pairs t o k x) _ _ _ (long-olds Kept zero_f) (long-corners Swirl t h) (long-pairs t)

  pub quinto-long : (h : Float) → length (quinto_coords h o k x) ≡ 3 * (positions x + edges o k + length k)
  unfolding quinto_coords
  quinto-long h = three (kept x) (edge_middles Sum zero_f h o k x) (corner_points Third zero_f h o k x) _ _ _ (long-olds Kept zero_f) (long-middles Sum zero_f h) (long-corners Third zero_f h)
