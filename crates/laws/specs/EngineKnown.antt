-- Words of the engine that no proof of its crate calls: a plan tested, the answer of a verdict, the parts of a plan, and what a table that is passed leaves known. Assumes nothing.
use Rattle.std.specs.Prelude.{◌≡◌, refl, Ok, Err, Bool, true, false, not, ◌&&◌, ◌||◌, List, ℕ, length, ltb, leb, Float}
use Rattle.std.proofs.Common.{ltb-true, leb-true}
use Rattle.slices.specs.First.{both}
use Rattle.mesh.specs.Tests.{Test}
use Rattle.mesh.specs.Verdict.{Verdict}
use Rattle.spots.specs.Points.{points_of}
use Rattle.spots.specs.declared.Points.{Points}
use Rattle.rule.specs.Flat.{flat}
use Rattle.rule.specs.Rule.{section_of}
use Rattle.rule.specs.declared.Bases.{Bases}
use Rattle.rule.specs.declared.Section.{Section}
use Rattle.rule.specs.Sections.{closes, Ruled as Slotted}
use Rattle.engine.specs.Answer.{Answer, Refused}
use Rattle.engine.specs.Result.{room_tests}
use Rattle.engine.specs.ResultLaws.{Fits}
use Rattle.engine.specs.Plan.{plan_faces, plan_coords}
use Rattle.engine.specs.Known.{asks_mates, Ruled, Known}
use Rattle.engine.specs.declared.work.Sizes.{Sizes}
use Rattle.engine.specs.declared.Asks.{Asks}
use Rattle.engine.specs.declared.Plan.{Plan}

-- ---- plans

-- that a plan can be carried out as a test, which computes where a plan is written out: of a section where a is asked, and of a plan
abbrev pub served : Asks → Section → Bool
served a s = (leb s.n 6 && leb s.n (length s.slots)) && (ltb 0 (length s.slots) && (asks_mates a || not (closes s.shape)))

abbrev pub fits : Plan → Bool
fits p = served p.asks p.one && served p.asks p.two

mates : (m a : Bool) → m || not a ≡ true → a ≡ true → m ≡ true
mates true a e h = refl
mates false true e h = e
mates false false e h = h

slotted : (a : Asks) (s : Section) → served a s ≡ true → Slotted s × (closes s.shape ≡ true → asks_mates a ≡ true)
slotted a s e =
    let w = both (leb s.n 6 && leb s.n (length s.slots)) (ltb 0 (length s.slots) && (asks_mates a || not (closes s.shape))) e in
    let u = both (leb s.n 6) (leb s.n (length s.slots)) w.0 in
    let v = both (ltb 0 (length s.slots)) (asks_mates a || not (closes s.shape)) w.1 in
    (record { few = leb-true _ _ u.0; within = leb-true _ _ u.1; some = ltb-true _ _ v.0 }, mates (asks_mates a) (closes s.shape) v.1)

pub ruled : (p : Plan) → fits p ≡ true → Ruled p
ruled p e =
    let w = both (served p.asks p.one) (served p.asks p.two) e in
    let y = slotted p.asks p.one w.0 in
    let z = slotted p.asks p.two w.1 in
    record { one = y.0; two = z.0; mates-one = y.1; mates_two = z.1 }

-- ---- results

-- the answer of a verdict that refuses
abbrev pub refusal_of : Verdict → Answer
refusal_of (Ok _) = Refused 0 0 0
refusal_of (Err r) = Refused r.number r.place 0

module _ (p : Plan) (a b o k : List ℕ) (x : List Float) where
  -- the coordinates of a section of a plan, and its faces
  abbrev pub points : Points → List Float
  points q = points_of q p.ratio p.height p.mask a b o k x

  abbrev pub section : Section → Bases → List (List ℕ)
  section s bs = section_of s bs p.mask a b o k x

  -- how large its result is
  pub record Measured (r : Sizes) : Type 0 where
    pub faces : r.faces ≡ length (plan_faces p a b o k x)
    pub corners : r.corners ≡ length (flat (plan_faces p a b o k x))
    pub coords : r.coords ≡ length (plan_coords p a b o k x)

  -- 12 and 13 of it
  abbrev pub plan_room : ℕ → ℕ → ℕ → List Test
  plan_room lo lc lx = room_tests (length (plan_faces p a b o k x)) (length (flat (plan_faces p a b o k x))) (length (plan_coords p a b o k x)) lo lc lx

  -- what a table that is passed leaves known
  pub record Passed (lo lc lx : ℕ) : Type 0 where
    pub known : Known p.asks o k x
    pub room : Fits (length (plan_faces p a b o k x)) (length (flat (plan_faces p a b o k x))) (length (plan_coords p a b o k x)) lo lc lx
