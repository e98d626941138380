-- Laws of what a section has at one place, that no proof of its crate calls. Assumes nothing.
use Rattle.std.specs.Prelude.{◌≡◌, refl, Bool, true, false, cond, List, [], ◌++◌, ℕ, ◌-◌, ◌*◌, ◌≤◌, length, take, Float}
use Rattle.std.proofs.Common.{sym, ◌∙◌, ap, ap₂, arith}
use Rattle.std.specs.Float.{nan}
use Rattle.faces.specs.Face.{coords_of, point_at}
use Rattle.point.specs.declared.Point.{Point}
use Rattle.mesh.specs.Mesh.{run, face_of, start, next}
use Rattle.mesh.specs.Edges.{up}
use Rattle.picks.specs.Picks.{picked}
use Rattle.picks.specs.declared.Mask.{Mask}
use Rattle.spots.specs.Points.{change_of, spot_of, between, tip_of, middle_of, from_p, to_p, spots_at}
use Rattle.spots.specs.Spots.{list_of, Holds}
use Rattle.spots.specs.declared.Change.{Change}
use Rattle.spots.specs.declared.Spot.{Spot}
use Rattle.spots.specs.declared.Tip.{Tip}
use Rattle.spots.specs.declared.Middle.{Middle}
use Rattle.spots.specs.declared.Points.{Points}
use Rattle.spots.specs.declared.Points.TheVariants.{Nothing, Olds, Faces, Picks, Corners, Pairs, Middles}
use Rattle.spots.specs.declared.Spots.{Spots}
use Rattle.spots.specs.declared.Spots.TheVariants.{None, One, Two}

-- how many points it has, the first and the second of them (no law tells what stands where there is none)
abbrev pub n_of : Spots → ℕ
n_of None = 0
n_of (One p) = 1
n_of (Two p q) = 2

abbrev pub p_of : Spots → Point
p_of None = record { x = nan; y = nan; z = nan }
p_of (One p) = p
p_of (Two p q) = p

abbrev pub q_of : Spots → Point
q_of None = record { x = nan; y = nan; z = nan }
q_of (One p) = record { x = nan; y = nan; z = nan }
q_of (Two p q) = q

-- its coordinates are those of the first n of its two points
pub list_first : (s : Spots) → list_of s ≡ take (3 * n_of s) (coords_of (p_of s) ++ coords_of (q_of s))
list_first None = refl
list_first (One p) = refl
list_first (Two p q) = refl

pub n_few : (s : Spots) → n_of s ≤ 2
n_few None = omega arith
n_few (One p) = omega arith
n_few (Two p q) = omega arith

module _ (s : Spots) (l : List Float) (h : Holds s l) where
  pub list : list_of s ≡ l
  list = h

  pub few : n_of s ≤ 2
  few = n_few s

pub holds_as : (s : Spots) {l l' : List Float} → Holds s l → l ≡ l' → Holds s l'
holds_as s h e = h ∙ e

-- ---- by how many they are
pub list-none : (s : Spots) → n_of s ≡ 0 → list_of s ≡ []
list-none s e = list_first s ∙ ap (λ (n : ℕ). take (3 * n) (coords_of (p_of s) ++ coords_of (q_of s))) e

pub list-one : (s : Spots) → n_of s ≡ 1 → list_of s ≡ coords_of (p_of s)
list-one s e = list_first s ∙ ap (λ (n : ℕ). take (3 * n) (coords_of (p_of s) ++ coords_of (q_of s))) e

pub list-two : (s : Spots) → n_of s ≡ 2 → list_of s ≡ coords_of (p_of s) ++ coords_of (q_of s)
list-two s e = list_first s ∙ ap (λ (n : ℕ). take (3 * n) (coords_of (p_of s) ++ coords_of (q_of s))) e

pub length-list : (s : Spots) → n_of s ≤ 2 → length (list_of s) ≡ 3 * n_of s
length-list None h = refl
length-list (One p) h = refl
length-list (Two p q) h = refl

pub length-holds : (s : Spots) {l : List Float} → Holds s l → length l ≡ 3 * n_of s
length-holds s {l} h = ap length (sym h) ∙ length-list s (n_few s)

-- ---- as the code makes them
pub holds-none : Holds None []
holds-none = refl

pub holds-one : (p : Point) → Holds (One p) (coords_of p)
holds-one p = refl

pub holds-two : (p q : Point) → Holds (Two p q) (coords_of p ++ coords_of q)
holds-two p q = refl

-- where a test holds, and else none
pub holds-yes : (s : Spots) {l : List Float} (b : Bool) → b ≡ true → Holds s l → Holds s (cond b l [])
holds-yes s b e h = rw e h

pub holds-no : (s : Spots) (l : List Float) (b : Bool) → b ≡ false → Holds s [] → Holds s (cond b l [])
holds-no s l b e h = rw e h

-- ---- what each section has at a place
module _ (q : Points) (t h : Float) (m : Mask) (a b o k : List ℕ) (x : List Float) (i : ℕ) where
  pub at-nothing : q ≡ Nothing → [] ≡ spots_at q t h m a b o k x i
  unfolding spots_at
  at-nothing e = rw e

  pub at-olds : (s : Change) (p : Point) → q ≡ Olds s → p ≡ change_of s t (point_at x i) → coords_of p ≡ spots_at q t h m a b o k x i
  unfolding spots_at
  at-olds s p e c = rw e (ap coords_of c)

  pub at-faces : (s : Spot) (p : Point) → q ≡ Faces s → p ≡ spot_of s h x (run o k i) → coords_of p ≡ spots_at q t h m a b o k x i
  unfolding spots_at
  at-faces s p e c = rw e (ap coords_of c)

  pub at-picks : (s : Spot) → q ≡ Picks s → cond (picked m a b o k x i) (coords_of (spot_of s h x (run o k i))) [] ≡ spots_at q t h m a b o k x i
  unfolding spots_at
  at-picks s e = rw e

  pub at-corners : (s : Tip) (p : Point) → q ≡ Corners s → p ≡ tip_of s t h x (run o k (face_of o i)) (i - start o (face_of o i)) → coords_of p ≡ spots_at q t h m a b o k x i
  unfolding spots_at
  at-corners s p e c = rw e (ap coords_of c)

  pub at-pairs : q ≡ Pairs → cond (up o k i) (coords_of (between t (from_p k x i) (to_p o k x i)) ++ coords_of (between t (to_p o k x i) (from_p k x i))) [] ≡ spots_at q t h m a b o k x i
  unfolding spots_at
  at-pairs e = rw e

  pub at-middles : (s : Middle) → q ≡ Middles s → cond (up o k i) (coords_of (middle_of s t h (from_p k x i) (to_p o k x i))) [] ≡ spots_at q t h m a b o k x i
  unfolding spots_at
  at-middles s e = rw e

-- ---- the ends of an edge
pub pair_is : (t : Float) (o k : List ℕ) (x : List Float) (c n : ℕ) (p q u v : Point) → n ≡ next o c → p ≡ from_p k x c → q ≡ from_p k x n
    → u ≡ between t p q → v ≡ between t q p → coords_of u ++ coords_of v ≡ coords_of (between t (from_p k x c) (to_p o k x c)) ++ coords_of (between t (to_p o k x c) (from_p k x c))
pair_is t o k x c n p q u v e f g y z =
    let w : q ≡ to_p o k x c = g ∙ ap (from_p k x) e in
    ap₂ (λ (i j : Point). coords_of i ++ coords_of j) (y ∙ ap₂ (between t) f w) (z ∙ ap₂ (between t) w f)

pub middle-is : (s : Middle) (t h : Float) (o k : List ℕ) (x : List Float) (c n : ℕ) (p q u : Point) → n ≡ next o c → p ≡ from_p k x c → q ≡ from_p k x n
    → u ≡ middle_of s t h p q → coords_of u ≡ coords_of (middle_of s t h (from_p k x c) (to_p o k x c))
middle-is s t h o k x c n p q u e f g y =
    let w : q ≡ to_p o k x c = g ∙ ap (from_p k x) e in
    ap coords_of (y ∙ ap₂ (middle_of s t h) f w)
