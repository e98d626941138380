-- What an exported list or recipe leaves. Definitions, and the two laws of a call.
use Rattle.std.specs.Prelude.{◌≡◌, refl, Bool, true, false, cond, List, ℕ, Option, Some, None, is_some}
use Rattle.std.specs.Borrow.{Bor}
use Rattle.std.proofs.Common.{sym, ◌∙◌, ap}
use Rattle.slices.specs.Lists.{over}
use Rattle.engine.specs.Result.{words_of, offsets_after, corners_after, coords_after}
use Rattle.engine.specs.Answer.{Answer}
use Rattle.operators.specs.Number.{Number}
use Rattle.steps.specs.Steps.{Mesh, Room}
use Rattle.chain.specs.Trail.{Trail, stopped, answer_to, Ended, Zero}
use Rattle.lists.specs.Lists as lists
use Rattle.lists.specs.Lists.{numbers_in}
use Rattle.lists.specs.ListLaws.{unread}
use Rattle.called.specs.Called.{known_list, list_named, coded_trail}
use Rattle.recipes.specs.Recipe.{flat_rows, Entered}
use Rattle.spelling.specs.Words.{spelled}
use Rattle.spelling.specs.declared.Words.{Words}

-- an exported list with this trail: its words, the output z, and both work meshes
pub record Carried (t : Trail) (a b z : Mesh) (r : Words) (a' b' z' : Mesh) : Type 0 where
  pub words : spelled r ≡ words_of (answer_to t)
  pub offsets : z'.offsets ≡ offsets_after t.end z.offsets
  pub corners : z'.corners ≡ corners_after t.end z.corners
  pub coords : z'.coords ≡ coords_after t.end z.coords
  pub first : Zero a.offsets a.corners a.coords a'.offsets a'.corners a'.coords
  pub second : Zero b.offsets b.corners b.coords b'.offsets b'.corners b'.coords

-- the same of a recipe, and the finished steps' rows in its ledger
pub record LedgerTold (t : Trail) (l : List ℕ) (a b z : Mesh) (r : Words) (l' : List ℕ) (a' b' z' : Mesh) : Type 0 where
  pub carried : Carried t a b z r a' b' z'
  pub ledger : l' ≡ over (flat_rows t.rows) l

-- ---- laws

module _ {t : Trail} {a b z : Mesh} {x : Answer} {r : Words} {a' b' z' : Mesh} where
  carry :
      Ended t z.offsets z.corners z.coords x z'.offsets z'.corners z'.coords →
      Zero a.offsets a.corners a.coords a'.offsets a'.corners a'.coords →
      Zero b.offsets b.corners b.coords b'.offsets b'.corners b'.coords → spelled r ≡ words_of x → Carried t a b z r a' b' z'
  carry e f s w = record { words = w ∙ ap words_of e.answer; offsets = e.offsets; corners = e.corners; coords = e.coords; first = f; second = s }

  pub list-told : lists.Listed t a b z x a' b' z' → spelled r ≡ words_of x → Carried t a b z r a' b' z'
  list-told c w = carry c.ended c.first c.second w

  pub ledger-told : {l l' : List ℕ} → Entered t (flat_rows t.rows) l a b z x l' a' b' z' → spelled r ≡ words_of x → LedgerTold t l a b z r l' a' b' z'
  ledger-told c w = record { carried = carry c.ended c.first c.second w; ledger = c.ledger }

-- a list's arities as a flag and a list, and as a list that may be absent
pub coded-given :
    (code : ℕ) (t h : Number) (g : Bool) (k : Bor (List ℕ)) (regular : Bool) (w : Mesh) (a b z : Room) {o : Option (Bor (List ℕ))} → o ≡ cond g (Some k) None →
    coded_trail code t h (is_some o) (numbers_in o) regular w a b z ≡ coded_trail code t h g k.now regular w a b z
unfolding coded_trail
coded-given code t h g k regular w a b z {o} e = ap (λ (y : Option (Bor (List ℕ))). coded_trail code t h (is_some y) (numbers_in y) regular w a b z) e ∙ by g
  where
    by : (g : Bool) → coded_trail code t h (is_some (cond g (Some k) None)) (numbers_in (cond g (Some k) None)) regular w a b z ≡ coded_trail code t h g k.now regular w a b z
    by true = refl
    by false = ap (λ (q : Trail). cond (known_list code) q (stopped 17 0)) (sym (unread (list_named code t h) k.now regular w a b z))
