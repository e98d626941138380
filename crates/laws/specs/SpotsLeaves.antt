-- Laws of one new point, from the parts that it is made of, that no proof of its crate calls. Assumes nothing.
use Rattle.std.specs.Prelude.{◌≡◌, List, ℕ, ◌+◌, ◌-◌, take, drop, Float}
use Rattle.std.proofs.Common.{◌∙◌}
use Rattle.std.proofs.Math.Path.{ap, ap₂}
use Rattle.std.specs.Float.Ieee.{neg}
use Rattle.point.specs.Vector.{◌*ᶠ◌, ◌-ᶠ◌, one_f, add_p, sub_p, scale_p, div_p, normalized_p}
use Rattle.faces.specs.Face.{centroid_of}
use Rattle.faces.specs.Normal.{round_at, average_normal_of}
use Rattle.point.specs.declared.Point.{Point}
use Rattle.mesh.specs.Mesh.{start, end, run, face_of}
use Rattle.spots.specs.Points.{one_half_more, three_f, change_of, spot_of, between, tip_of, middle_of}
use Rattle.spots.specs.declared.Change.{Change}
use Rattle.spots.specs.declared.Change.TheVariants.{Kept, Scaled, Flipped}
use Rattle.spots.specs.declared.Spot.{Spot}
use Rattle.spots.specs.declared.Spot.TheVariants.{Centre, Apex, Crown}
use Rattle.spots.specs.declared.Tip.{Tip}
use Rattle.spots.specs.declared.Tip.TheVariants.{Inset, Swirl, Third}
use Rattle.spots.specs.declared.Middle.{Middle}
use Rattle.spots.specs.declared.Middle.TheVariants.{Split, Sum}

pub kept-is : (s : Change) (t : Float) (p : Point) → s ≡ Kept → p ≡ change_of s t p
unfolding change_of
kept-is s t p e = rw e

pub scaled-is : (s : Change) (t : Float) (p r : Point) → s ≡ Scaled → r ≡ scale_p p (one_half_more *ᶠ t) → r ≡ change_of s t p
unfolding change_of
scaled-is s t p r e h = rw e h

pub flipped-is : (s : Change) (t : Float) (p : Point) → s ≡ Flipped → ◌≡◌ {A = Point} (record { x = p.x; y = neg p.y; z = p.z }) (change_of s t p)
unfolding change_of
flipped-is s t p e = rw e

pub between_is : (t : Float) (p q d m r : Point) → d ≡ sub_p q p → m ≡ scale_p d t → r ≡ add_p p m → r ≡ between t p q
between_is t p q d m r g h i = i ∙ ap (add_p p) (h ∙ ap (λ (z : Point). scale_p z t) g)

pub split-is : (s : Middle) (t h : Float) (p q a b r : Point) → s ≡ Split → a ≡ scale_p p t → b ≡ scale_p q (one_f -ᶠ t) → r ≡ add_p a b → r ≡ middle_of s t h p q
unfolding middle_of
split-is s t h p q a b r e c d f = rw e (f ∙ ap₂ add_p c d)

pub sum_is : (s : Middle) (t h : Float) (p q a r : Point) → s ≡ Sum → a ≡ add_p p q → r ≡ scale_p a h → r ≡ middle_of s t h p q
unfolding middle_of
sum_is s t h p q a r e c f = rw e (f ∙ ap (λ (z : Point). scale_p z h) c)

module _ (x : List Float) (vs : List ℕ) where
  pub centre-is : (s : Spot) (h : Float) (p : Point) → s ≡ Centre → p ≡ centroid_of x vs → p ≡ spot_of s h x vs
  unfolding spot_of
  centre-is s h p e a = rw e a

  pub apex-is : (s : Spot) (h : Float) (p n m r : Point) → s ≡ Apex → p ≡ centroid_of x vs → n ≡ average_normal_of x vs → m ≡ scale_p n h → r ≡ add_p p m → r ≡ spot_of s h x vs
  unfolding spot_of
  apex-is s h p n m r e a b c d = rw e (d ∙ ap₂ add_p a (c ∙ ap (λ (q : Point). scale_p q h) b))

  pub crown-is : (s : Spot) (h : Float) (p n m q r : Point) → s ≡ Crown → p ≡ centroid_of x vs → n ≡ average_normal_of x vs → q ≡ normalized_p p → m ≡ scale_p n h → r ≡ add_p q m → r ≡ spot_of s h x vs
  unfolding spot_of
  crown-is s h p n m q r e a b g c d = rw e (d ∙ ap₂ add_p (g ∙ ap normalized_p a) (c ∙ ap (λ (q : Point). scale_p q h) b))

  module _ (s : Tip) (t h : Float) (j : ℕ) (p q m r : Point) (a : p ≡ round_at x vs j) (b : q ≡ round_at x vs (j + 1)) where
    pub inset-is : s ≡ Inset → m ≡ centroid_of x vs → r ≡ between t p m → r ≡ tip_of s t h x vs j
    unfolding tip_of
    inset-is e c d = rw e (d ∙ ap₂ (between t) a c)

    pub swirl-is : (n : Point) → s ≡ Swirl → m ≡ spot_of Apex h x vs → n ≡ between t p q → r ≡ between t n m → r ≡ tip_of s t h x vs j
    unfolding tip_of
    swirl-is n e c f d = rw e (d ∙ ap₂ (between t) (f ∙ ap₂ (between t) a b) c)

    pub third-is : (n l : Point) → s ≡ Third → m ≡ centroid_of x vs → n ≡ add_p p q → l ≡ add_p n m → r ≡ div_p l three_f → r ≡ tip_of s t h x vs j
    unfolding tip_of
    third-is n l e c f g d = rw e (d ∙ ap (λ (z : Point). div_p z three_f) (g ∙ ap₂ add_p (f ∙ ap₂ add_p a b) c))

-- ---- a face's point and a corner's, from the run as the code cuts it out
pub cut-spot : (s : Spot) (h : Float) (o k : List ℕ) (x : List Float) (f i j : ℕ) (p : Point) → i ≡ start o f → j ≡ end o f → p ≡ spot_of s h x (take (j - i) (drop i k)) → p ≡ spot_of s h x (run o k f)
cut-spot s h o k x f i j p d e q = q ∙ ap₂ (λ (u v : ℕ). spot_of s h x (take (v - u) (drop u k))) d e

pub cut-tip : (s : Tip) (t h : Float) (o k : List ℕ) (x : List Float) (c f i j : ℕ) (p : Point) → f ≡ face_of o c → i ≡ start o f → j ≡ end o f
    → p ≡ tip_of s t h x (take (j - i) (drop i k)) (c - i) → p ≡ tip_of s t h x (run o k (face_of o c)) (c - start o (face_of o c))
cut-tip s t h o k x c f i j p g d e q =
    q ∙ ap₂ (λ (u v : ℕ). tip_of s t h x (take (v - u) (drop u k)) (c - u)) d e ∙ ap (λ (w : ℕ). tip_of s t h x (run o k w) (c - start o w)) g
