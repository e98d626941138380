-- Laws of a section of faces, how many places it looks at and its faces there, that no proof of rule calls. Assumes nothing.
use Rattle.std.specs.Prelude.{◌≡◌, Bool, true, false, cond, List, [], ◌∷◌, ℕ, ◌/◌, length, take, Float}
use Rattle.std.proofs.Math.Path.{refl}
use Rattle.std.proofs.Common.{sym, true≢false}
use Rattle.slices.specs.First.{count}
use Rattle.slices.specs.Lists.{each}
use Rattle.mesh.specs.Mesh.{faces}
use Rattle.picks.specs.Picks.{picked}
use Rattle.picks.specs.declared.Mask.{Mask}
use Rattle.rule.specs.Rule.{old, vertex_at, inner, splits, apexed, shape_faces, faces_at_place, face_places, section_of}
use Rattle.rule.specs.Sections.{is_picks}
use Rattle.rule.specs.declared.Move.TheVariants.{Here}
use Rattle.rule.specs.declared.Slot.{Slot}
use Rattle.rule.specs.declared.Bases.{Bases}
use Rattle.rule.specs.declared.Shape.{Shape}
use Rattle.rule.specs.declared.Shape.TheVariants.{Nothing, Corners, Ups, Inner, Vertices, Backward, Triangles, Picks}
use Rattle.rule.specs.declared.Section.{Section}

pub picks-is : (q : Shape) → is_picks q ≡ true → q ≡ Picks
picks-is Nothing e = absurd (true≢false (sym e))
picks-is Corners e = absurd (true≢false (sym e))
picks-is Ups e = absurd (true≢false (sym e))
picks-is Inner e = absurd (true≢false (sym e))
picks-is Vertices e = absurd (true≢false (sym e))
picks-is Backward e = absurd (true≢false (sym e))
picks-is (Triangles shorter) e = absurd (true≢false (sym e))
picks-is Picks e = refl

pub picks-not : (q : Shape) → q ≡ Picks → is_picks q ≡ false → ⊥
picks-not q e h = true≢false (rw e at h)

-- ---- its places

module _ (q : Shape) (o k : List ℕ) (x : List Float) where
  pub places-nothing : q ≡ Nothing → 0 ≡ face_places q o k x
  unfolding face_places
  places-nothing e = rw e

  pub places-corners : q ≡ Corners → length k ≡ face_places q o k x
  unfolding face_places
  places-corners e = rw e

  pub places-ups : q ≡ Ups → length k ≡ face_places q o k x
  unfolding face_places
  places-ups e = rw e

  pub places-inner : q ≡ Inner → faces o ≡ face_places q o k x
  unfolding face_places
  places-inner e = rw e

  pub places-vertices : q ≡ Vertices → length x / 3 ≡ face_places q o k x
  unfolding face_places
  places-vertices e = rw e

  pub places-backward : q ≡ Backward → faces o ≡ face_places q o k x
  unfolding face_places
  places-backward e = rw e

  pub places-triangles : (t : Bool) → q ≡ Triangles t → faces o ≡ face_places q o k x
  unfolding face_places
  places-triangles t e = rw e

-- ---- a section that picks

module _ (o k : List ℕ) (b : Bases) (rule : List Slot) (c f : ℕ) (h : Bool) where
  pub pick-split :
      (d : Bases) → h ≡ true → d ≡ apexed b c →
      cond h (splits (vertex_at o k (apexed b c)) rule o f) (inner (vertex_at o k b) o (old Here) f ∷ []) ≡ splits (vertex_at o k d) rule o f
  pick-split d e g = rw (e, g)

  pub pick-leave :
      h ≡ false → cond h (splits (vertex_at o k (apexed b c)) rule o f) (inner (vertex_at o k b) o (old Here) f ∷ []) ≡ inner (vertex_at o k b) o (old Here) f ∷ []
  pick-leave e = rw e

-- its faces at face i, with the count and the test that the code has
pub pick-here :
    (rule : List Slot) (d : Slot) (b : Bases) (m : Mask) (l n o k : List ℕ) (x : List Float) (i c : ℕ) (h : Bool) → c ≡ count (picked m l n o k x) i → h ≡ picked m l n o k x i →
    shape_faces Picks rule d b m l n o k x i ≡ cond h (splits (vertex_at o k (apexed b c)) rule o i) (inner (vertex_at o k b) o (old Here) i ∷ [])
unfolding shape_faces
pick-here rule d b m l n o k x i c h p q = rw (p, q)

pub picks-section :
    (s : Section) (b : Bases) (m : Mask) (l n o k : List ℕ) (x : List Float) → s.shape ≡ Picks →
    section_of s b m l n o k x ≡ each (λ i. shape_faces Picks (take s.n s.slots) (old Here) b m l n o k x i) (faces o)
unfolding section_of faces_at_place shape_faces face_places
picks-section s b m l n o k x e = rw e refl
