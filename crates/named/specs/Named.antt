-- The ten lists that document 01 names: their steps, and the masks of kis in them. Definitions only.
use Rattle.std.specs.Prelude.{Bool, true, false, cond, not, List, [], ◌∷◌, ◌++◌, ℕ}
use Rattle.operators.specs.Number.{Number}
use Rattle.steps.specs.Steps.{Masks, masks}
use Rattle.steps.specs.declared.Step.{Step}
use Rattle.steps.specs.declared.Step.TheVariants.{Ambo, Dual, Gyro, Kis}
use Rattle.named.specs.declared.NamedList.{NamedList}
use Rattle.named.specs.declared.NamedList.TheVariants.{Bevel, Expand, Join, Medial, Meta, Needle, Ortho, Snub, Truncate, Zip}

-- join inside meta and ortho counts as its three steps
abbrev pub join_steps : Number → List Step
join_steps t = Dual ∷ Ambo t ∷ Dual ∷ []

-- t is the ratio, h the height
abbrev pub list_steps : NamedList → List Step
list_steps (Bevel t h) = Ambo t ∷ Dual ∷ Kis h ∷ Dual ∷ []
list_steps (Expand t) = Ambo t ∷ Ambo t ∷ []
list_steps (Join t) = join_steps t
list_steps (Medial t h) = Ambo t ∷ Dual ∷ Kis h ∷ Dual ∷ Dual ∷ []
list_steps (Meta t h) = join_steps t ++ (Kis h ∷ [])
list_steps (Needle h) = Dual ∷ Kis h ∷ Dual ∷ Dual ∷ []
list_steps (Ortho t) = join_steps t ++ join_steps t
list_steps (Snub t h) = Dual ∷ Gyro t h ∷ Dual ∷ []
list_steps (Truncate h) = Dual ∷ Kis h ∷ Dual ∷ []
list_steps (Zip h) = Kis h ∷ Dual ∷ []

-- the arities that meta takes where none are given
abbrev pub meta_arities : List ℕ
meta_arities = 3 ∷ []

-- whether these are taken, where g says that arities are given
abbrev pub defaulted : NamedList → Bool → Bool
defaulted (Bevel t h) g = false
defaulted (Expand t) g = false
defaulted (Join t) g = false
defaulted (Medial t h) g = false
defaulted (Meta t h) g = not g
defaulted (Needle h) g = false
defaulted (Ortho t) g = false
defaulted (Snub t h) g = false
defaulted (Truncate h) g = false
defaulted (Zip h) g = false

-- the masks of kis in a list: arities, if they are given, and regular faces only; a list gives no face numbers
abbrev pub masked : Bool → List ℕ → Bool → Masks
masked g arities regular = masks (record { arities = g; numbers = false; regular = regular }) arities []

abbrev pub list_masks : NamedList → Bool → List ℕ → Bool → Masks
list_masks l g arities regular = cond (defaulted l g) (masked true meta_arities regular) (masked g arities regular)
