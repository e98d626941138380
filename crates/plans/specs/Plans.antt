-- The plans of the operators: each operator as data for the engine. Definitions only.
use Rattle.std.specs.Prelude.{Bool, false, List, [], ◌∷◌, ◌++◌, length, take, Float}
use Rattle.slices.specs.Lists.{zero_f}
use Rattle.picks.specs.declared.Mask.{Mask}
use Rattle.spots.specs.declared.Change.TheVariants.{Kept, Scaled, Flipped}
use Rattle.spots.specs.declared.Spot.TheVariants.{Centre, Apex, Crown}
use Rattle.spots.specs.declared.Tip.TheVariants.{Inset, Swirl, Third}
use Rattle.spots.specs.declared.Middle.TheVariants.{Split, Sum}
use Rattle.spots.specs.declared.Points.{Points}
use Rattle.spots.specs.declared.Points.TheVariants as P
use Rattle.rule.specs.Rule.{old, dir, edge, cor, face}
use Rattle.rule.specs.declared.Slot.{Slot}
use Rattle.rule.specs.declared.Section.{Section}
use Rattle.rule.specs.declared.Shape.{Shape}
use Rattle.rule.specs.declared.Shape.TheVariants as S
use Rattle.rule.specs.declared.Move.TheVariants.{Here, Prev}
use Rattle.engine.specs.declared.Plan.{Plan}
use Rattle.engine.specs.declared.Asks.{Asks}
use Rattle.engine.specs.declared.Asks.TheVariants.{Open, Closed, Round}
use Rattle.closed.specs.Rules.{gyro_rule, propellor_rule, whirl_rule, quinto_rule, chamfer_rule, kis_rule}

-- ---- sections of faces

-- six times the same slot
abbrev pub filled : Slot → List Slot
filled s = s ∷ s ∷ s ∷ s ∷ s ∷ s ∷ []

-- a section of no slots, of one, of a rule of up to six; the rest of its six slots nothing reads
abbrev pub bare : Shape → Section
bare q = record { shape = q; slots = filled (old Here); n = 0 }

abbrev pub single : Shape → Slot → Section
single q s = record { shape = q; slots = filled s; n = 1 }

abbrev pub by_rule : Shape → List Slot → Section
by_rule q rule = record { shape = q; slots = take 6 (rule ++ filled (old Here)); n = length rule }

abbrev pub none : Section
none = bare S.Nothing

-- no mask is given
abbrev pub no_mask : Mask
no_mask = record { arities = false; numbers = false; regular = false }

-- ---- plans

-- what it asks; what becomes of the old positions, and two sections of new points; ratio, height and masks; two sections of faces
abbrev pub planned : Asks → Points → Points → Points → Float → Float → Mask → Section → Section → Plan
planned a p q r t h m s u = record { asks = a; olds = p; first = q; second = r; ratio = t; height = h; mask = m; one = s; two = u }

abbrev pub reverse_plan : Plan
reverse_plan = planned Open (P.Olds Kept) P.Nothing P.Nothing zero_f zero_f no_mask (bare S.Backward) none

abbrev pub reflect_plan : Plan
reflect_plan = planned Open (P.Olds Flipped) P.Nothing P.Nothing zero_f zero_f no_mask (bare S.Backward) none

abbrev pub triangulate_plan : Bool → Plan
triangulate_plan shorter = planned Open (P.Olds Kept) P.Nothing P.Nothing zero_f zero_f no_mask (bare (S.Triangles shorter)) none

abbrev pub ambo_plan : Float → Plan
ambo_plan t = planned Round P.Nothing (P.Middles Split) P.Nothing t zero_f no_mask (single S.Inner (edge Here)) (single S.Vertices (edge Prev))

abbrev pub dual_plan : Plan
dual_plan = planned Round P.Nothing (P.Faces Centre) P.Nothing zero_f zero_f no_mask (single S.Vertices face) none

abbrev pub kis_plan : Mask → Float → Plan
kis_plan m h = planned Closed (P.Olds Kept) (P.Picks Apex) P.Nothing zero_f h m (by_rule S.Picks kis_rule) none

abbrev pub chamfer_plan : Float → Plan
chamfer_plan t = planned Closed (P.Olds Scaled) (P.Corners Inset) P.Nothing t zero_f no_mask (single S.Inner (cor Here)) (by_rule S.Ups chamfer_rule)

abbrev pub gyro_plan : Float → Float → Plan
gyro_plan t h = planned Closed (P.Olds Kept) (P.Faces Crown) P.Pairs t h no_mask (by_rule S.Corners gyro_rule) none

abbrev pub propellor_plan : Float → Plan
propellor_plan t = planned Closed (P.Olds Kept) P.Pairs P.Nothing t zero_f no_mask (single S.Inner (dir Here)) (by_rule S.Corners propellor_rule)

abbrev pub whirl_plan : Float → Float → Plan
whirl_plan t h = planned Closed (P.Olds Kept) (P.Corners Swirl) P.Pairs t h no_mask (by_rule S.Corners whirl_rule) (single S.Inner (cor Here))

abbrev pub quinto_plan : Float → Plan
quinto_plan h = planned Closed (P.Olds Kept) (P.Middles Sum) (P.Corners Third) zero_f h no_mask (single S.Inner (cor Here)) (by_rule S.Corners quinto_rule)
