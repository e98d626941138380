-- A recipe of steps given as words, a list given by a number, and what a call of one comes to. Definitions only.
use Rattle.std.specs.Prelude.{Bool, cond, ◌&&◌, List, [], ◌∷◌, ℕ, length, get_or, ltb, leb}
use Rattle.slices.specs.First.{any}
use Rattle.operators.specs.Number.{Number}
use Rattle.steps.specs.Steps.{Mesh, Room}
use Rattle.chain.specs.Trail.{Trail, stopped}
use Rattle.named.specs.Named.{list_masks}
use Rattle.named.specs.declared.NamedList.{NamedList}
use Rattle.named.specs.declared.NamedList.TheVariants.{Bevel, Expand, Join, Medial, Meta, Needle, Ortho, Snub, Truncate, Zip}
use Rattle.lists.specs.Lists.{list_trail}
use Rattle.recipes.specs.Recipe.{recipe_trail}
use Rattle.given.specs.Given.{unknown, steps_in, strange_at}

-- with a ledger of so many rows: more than 16 steps; then 17, an unknown step; else the recipe
unfoldable pub given_trail : ℕ → List (List ℕ) → Mesh → Room → Room → Room → Trail
given_trail lent ws w a b z =
    cond (ltb 16 (length ws)) (stopped 2 3)
    (cond (any (unknown ws) (length ws)) (stopped 17 (strange_at ws)) (recipe_trail lent (steps_in ws) (length ws) w a b z))

-- ---- a list by its number: 1 to 10 in document 01's order; t is the ratio, h the height

unfoldable pub known_list : ℕ → Bool
known_list code = leb 1 code && leb code 10

-- no other number is read
unfoldable pub list_named : ℕ → Number → Number → NamedList
list_named code t h =
    get_or (Zip h ∷ Bevel t h ∷ Expand t ∷ Join t ∷ Medial t h ∷ Meta t h ∷ Needle h ∷ Ortho t ∷ Snub t h ∷ Truncate h ∷ []) code (Zip h)

-- g says that arities are given; 17: an unknown number
unfoldable pub coded_trail : ℕ → Number → Number → Bool → List ℕ → Bool → Mesh → Room → Room → Room → Trail
coded_trail code t h g arities regular w a b z =
    cond (known_list code) (list_trail (list_named code t h) (list_masks (list_named code t h) g arities regular) w a b z) (stopped 17 0)
