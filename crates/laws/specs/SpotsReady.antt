-- Laws of what a mesh gives at a place of a section of points, that no proof of its crate calls. Assumes nothing.
use Rattle.std.specs.Prelude.{◌≡◌, List, ℕ, ◌+◌, ◌-◌, ◌*◌, ◌/◌, ◌<◌, ◌≤◌, take, drop, Float}
use native.Mathlib.Omega.{arith}
use Rattle.std.proofs.Math.ListN.{length}
use Rattle.mesh.specs.Mesh.{faces, start, end, run, face_of}
use Rattle.mesh.specs.Shape.{In}
use Rattle.mesh.specs.Corners.{in-face}
use Rattle.picks.specs.Ready.{Ready}
use Rattle.picks.specs.Runs.{Run, run_of}
use Rattle.spots.specs.Points.{places_of}
use Rattle.spots.specs.Ready.{places_few}
use Rattle.spots.specs.declared.Change.{Change}
use Rattle.spots.specs.declared.Spot.{Spot}
use Rattle.spots.specs.declared.Tip.{Tip}
use Rattle.spots.specs.declared.Middle.{Middle}
use Rattle.spots.specs.declared.Points.{Points}
use Rattle.spots.specs.declared.Points.TheVariants.{Olds, Faces, Picks, Corners, Pairs, Middles}

module _ (o k : List ℕ) (x : List Float) (r : Ready o k x) where
  pub run_at : (f : ℕ) → f < faces o → Run o k x f
  run_at f h = run_of o k x f r.faced r.reach h

  -- the run of a corner's own face, and where the corner stands in it
  pub own-run : (c f : ℕ) → c < length k → f ≡ face_of o c → (In o f c) × Run o k x f
  own-run c f h e = let i : In o f c = rw e (in-face o (length k) r.faced.shaped c h) in (i, run_at f i.face)

  -- the corner's place in that run as the code cuts it out
  pub own-place : (c f a b : ℕ) → In o f c → Run o k x f → a ≡ start o f → b ≡ end o f → (a ≤ c) × (c - a < length (take (b - a) (drop a k)))
  own-place c f a b i s d e =
      let w : (start o f ≤ c) × (c - start o f < length (run o k f)) = let u = i.from in let v = i.to in (u, omega (arith, s.long)) in
      rw (d, e) w

  -- every section is short
  pub places-few : (q : Points) → places_of q o k x ≤ 60000
  places-few q = places_few q o k x r

-- ---- the places of a section
module _ (q : Points) (o k : List ℕ) (x : List Float) (i : ℕ) (l : i < places_of q o k x) where
  pub of-olds : (s : Change) → q ≡ Olds s → i * 3 + 3 ≤ length x
  unfolding places_of
  of-olds s e = let w : i < length x / 3 = rw e at l in omega arith

  pub of-faces : (s : Spot) → q ≡ Faces s → i < faces o
  unfolding places_of
  of-faces s e = rw e at l

  pub of-picks : (s : Spot) → q ≡ Picks s → i < faces o
  unfolding places_of
  of-picks s e = rw e at l

  pub of-corners : (s : Tip) → q ≡ Corners s → i < length k
  unfolding places_of
  of-corners s e = rw e at l

  pub of-pairs : q ≡ Pairs → i < length k
  unfolding places_of
  of-pairs e = rw e at l

  pub of-middles : (s : Middle) → q ≡ Middles s → i < length k
  unfolding places_of
  of-middles s e = rw e at l
