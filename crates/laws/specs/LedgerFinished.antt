-- Laws of a recipe with a ledger of its own, that no proof of its crate calls. Assumes nothing.
use Rattle.std.specs.Prelude.{◌≡◌, List, ℕ, length}
use Rattle.std.proofs.Common.{◌∙◌, ap, subst, arith}
use Rattle.engine.specs.Answer.{Answer}
use Rattle.steps.specs.Steps.{Mesh, Room}
use Rattle.steps.specs.declared.Step.{Step}
use Rattle.chain.specs.Trail.{answer_to}
use Rattle.chain.specs.declared.Row.{Row}
use Rattle.chain.specs.declared.Ran.{Ran}
use Rattle.runner.specs.Run.{blanks, Went}
use Rattle.recipes.specs.Recipe.{recipe_trail, Entered}
use Rattle.ledger.specs.Finished as finished

module _ (steps : List Step) (n : ℕ) (w : Mesh) (ra rb rz : Room) (full : length steps ≡ 16) where
  pub recipe-finished : finished.finished_of (answer_to (recipe_trail 16 steps n w ra rb rz)) n ≡ length (recipe_trail 16 steps n w ra rb rz).rows
  recipe-finished = finished.recipe-finished steps n w (λ h. omega arith) ra rb rz

  -- a recipe with a ledger of its own, whose rows were blank
  went-blank : {l' : List Row} {a b z a' b' z' : Mesh} {r : Answer} {q : Ran} →
      Entered (recipe_trail 16 steps n w ra rb rz) (recipe_trail 16 steps n w ra rb rz).rows blanks a b z r l' a' b' z' → q ≡ finished.ran_of r l' n →
      Went (recipe_trail 16 steps n w ra rb rz) a b z q a' b' z'
  went-blank e d =
      record {
        ended = record { answer = ap (λ (x : Ran). x.answer) d ∙ e.ended.answer; offsets = e.ended.offsets; corners = e.ended.corners; coords = e.ended.coords };
        first = e.first;
        second = e.second;
        rows = ap (λ (x : Ran). x.rows) d ∙ e.ledger;
        done = ap (λ (x : Ran). x.done) d ∙ ap (λ (x : Answer). finished.finished_of x n) e.ended.answer ∙ recipe-finished;
      }

  pub went-own : {l l' : List Row} {a b z a' b' z' : Mesh} {r : Answer} {q : Ran} → l ≡ blanks →
      Entered (recipe_trail (length l) steps n w ra rb rz) (recipe_trail (length l) steps n w ra rb rz).rows l a b z r l' a' b' z' → q ≡ finished.ran_of r l' n →
      Went (recipe_trail 16 steps n w ra rb rz) a b z q a' b' z'
  went-own {l} {l'} {a} {b} {z} {a'} {b'} {z'} {r} k e d =
      went-blank (subst (λ (x : List Row). Entered (recipe_trail (length x) steps n w ra rb rz) (recipe_trail (length x) steps n w ra rb rz).rows x a b z r l' a' b' z') k e) d
