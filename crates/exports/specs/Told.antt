-- What an exported operator or edge list leaves. Definitions, and the law of a call.
use Rattle.std.specs.Prelude.{◌≡◌, List, ℕ, Float}
use Rattle.std.proofs.Common.{◌∙◌, ap}
use Rattle.edges.specs.EdgeList.{Called, list_after}
use Rattle.edges.specs.EdgeList as listing
use Rattle.engine.specs.Result.{Outcome, words_of, answer_of, offsets_after, corners_after, coords_after, Came}
use Rattle.engine.specs.Answer.{Answer}
use Rattle.spelling.specs.Words.{spelled, listing_words}
use Rattle.spelling.specs.declared.Words.{Words}

-- an exported call with this outcome: its words, and the lent offsets, corners and coordinates before and after it
pub record Told (q : Outcome) (o k : List ℕ) (x : List Float) (r : Words) (o' k' : List ℕ) (x' : List Float) : Type 0 where
  pub words : spelled r ≡ words_of (answer_of q)
  pub offsets : o' ≡ offsets_after q o
  pub corners : k' ≡ corners_after q k
  pub coords : x' ≡ coords_after q x

-- the same of a call that lists the edges
pub record Listed (q : Called) (l : List (List ℕ)) (r : Words) (l' : List (List ℕ)) : Type 0 where
  pub words : spelled r ≡ listing_words (listing.answer_of q)
  pub list : l' ≡ list_after q l

-- ---- laws

pub told :
    {q : Outcome} {o k : List ℕ} {x : List Float} {a : Answer} {r : Words} {o' k' : List ℕ} {x' : List Float} →
    Came q o k x a o' k' x' → spelled r ≡ words_of a → Told q o k x r o' k' x'
told c w = record { words = w ∙ ap words_of c.answer; offsets = c.offsets; corners = c.corners; coords = c.coords }
