-- How many steps a recipe finished, told from its answer, and what a recipe with a ledger of its own hands back. Assumes nothing.
use Rattle.std.specs.Prelude.{◌≡◌, Ok, Err, Bool, true, false, cond, List, [], ◌∷◌, ℕ, ◌+◌, ◌-◌, ◌≤◌, length, take, ltb}
use Rattle.std.proofs.Math.Path.{refl}
use Rattle.std.proofs.Common.{sym, ◌∙◌, ap, subst, arith, zero-add, length-take-le, ltb-false}
use Rattle.rule.specs.Flat.{flat, offsets_of}
use Rattle.engine.specs.Result.{Outcome, refused, result}
use Rattle.engine.specs.Answer.{Answer}
use Rattle.steps.specs.Steps.{Mesh, Room, Masks, mesh, step_on}
use Rattle.steps.specs.declared.Step.{Step}
use Rattle.mesh.specs.declared.MeshMut.{MeshMut}
use Rattle.chain.specs.Lent.{space}
use Rattle.chain.specs.Trail.{Trail, lastly, onward, trail, stopped, answer_at, answer_to}
use Rattle.chain.specs.declared.Row.{Row}
use Rattle.chain.specs.declared.Ran.{Ran}
use Rattle.runner.specs.Run.{blanks, Runs}
use Rattle.recipes.specs.Recipe.{unmasked, recipe_trail, Enters}

-- a result has finished all n steps, and a refusal at step s those before it, none where s is 0
abbrev pub finished_of : Answer → ℕ → ℕ
finished_of (Ok c) n = n
finished_of (Err r) n = r.step - 1

-- an answer with its rows
abbrev pub ran_of : Answer → List Row → ℕ → Ran
ran_of a rows n = record { answer = a; rows = rows; done = finished_of a n }

-- ---- as many steps are finished as there are rows

last-by : (s : Step) (i k : ℕ) (q : Outcome) → k ≡ i + 1 → finished_of (answer_to (lastly s (i + 1) q)) k ≡ i + length (lastly s (i + 1) q).rows
last-by s i k (refused n p) e = omega arith
last-by s i k (result fs xs) e = omega arith

on-by : (s : Step) (i k : ℕ) (q : Outcome) (go : Mesh → Trail) → ((v : Mesh) → finished_of (answer_to (go v)) k ≡ i + 1 + length (go v).rows) →
    finished_of (answer_to (onward s (i + 1) q go)) k ≡ i + length (onward s (i + 1) q go).rows
on-by s i k (refused n p) go h = omega arith
on-by s i k (result fs xs) go h = h (mesh (offsets_of fs) (flat fs) xs) ∙ omega arith

-- one step or more, from step i + 1 to step k
steps-by : (m : Masks) (s : Step) (ss : List Step) (i k : ℕ) (w : Mesh) (a b z : Room) → k ≡ i + length (s ∷ ss) →
    finished_of (answer_to (trail m (s ∷ ss) (i + 1) w a b z)) k ≡ i + length (trail m (s ∷ ss) (i + 1) w a b z).rows
unfolding trail
steps-by m s [] i k w a b z e = last-by s i k (step_on m s w z) (omega arith)
steps-by m s (t ∷ ts) i k w a b z e =
    on-by s i k (step_on m s w a) (λ (v : Mesh). trail m (t ∷ ts) (i + 1 + 1) v b a z) (λ (v : Mesh). steps-by m t ts (i + 1) k v b a z (omega arith))

-- no steps
none-by : (q : Outcome) → finished_of (answer_at 0 q) 0 ≡ 0
none-by (refused n p) = refl
none-by (result fs xs) = refl

trail-finished : (m : Masks) (ss : List Step) (k : ℕ) (w : Mesh) (a b z : Room) → k ≡ length ss → finished_of (answer_to (trail m ss 1 w a b z)) k ≡ length (trail m ss 1 w a b z).rows
unfolding trail
trail-finished m [] k w a b z e = ap (finished_of (answer_to (trail m [] 1 w a b z))) e ∙ none-by (trail m [] 1 w a b z).end
trail-finished m (s ∷ ss) k w a b z e = steps-by m s ss 0 k w a b z (e ∙ sym (zero-add _)) ∙ zero-add _

module _ (steps : List Step) (n : ℕ) (w : Mesh) (fits : n ≤ 16 → n ≤ length steps) where
  by_way : (ra rb rz : Room) (c : Bool) → ltb 16 n ≡ c →
      finished_of (answer_to (cond c (stopped 2 3) (cond c (stopped 13 3) (trail unmasked (take n steps) 1 w ra rb rz)))) n
      ≡ length (cond c (stopped 2 3) (cond c (stopped 13 3) (trail unmasked (take n steps) 1 w ra rb rz))).rows
  by_way ra rb rz true e = refl
  by_way ra rb rz false e = trail-finished unmasked (take n steps) n w ra rb rz (sym (length-take-le n steps (fits (ltb-false 16 n e))))

  pub recipe-finished : (ra rb rz : Room) → finished_of (answer_to (recipe_trail 16 steps n w ra rb rz)) n ≡ length (recipe_trail 16 steps n w ra rb rz).rows
  unfolding recipe_trail
  recipe-finished ra rb rz = by_way ra rb rz (ltb 16 n) refl

  -- a recipe with a ledger of its own, whose rows were blank
  went-blank : {l' : List Row} {a b z a' b' z' : MeshMut} {r : Answer} {q : Ran} → Enters (λ l. l) (recipe_trail 16 steps n w) blanks a b z r l' a' b' z' → q ≡ ran_of r l' n →
      Runs (recipe_trail 16 steps n w) a b z q a' b' z'
  went-blank {a = a} {b = b} {z = z} h d =
      let e = h.entered in
      record {
        went = record {
          ended = record { answer = ap (λ (x : Ran). x.answer) d ∙ e.ended.answer; offsets = e.ended.offsets; corners = e.ended.corners; coords = e.ended.coords };
          first = e.first;
          second = e.second;
          rows = ap (λ (x : Ran). x.rows) d ∙ e.ledger;
          done = ap (λ (x : Ran). x.done) d ∙ ap (λ (x : Answer). finished_of x n) e.ended.answer ∙ recipe-finished (space a) (space b) (space z);
        };
        kept = h.kept;
      }

  pub went-own : {l l' : List Row} {a b z a' b' z' : MeshMut} {r : Answer} {q : Ran} → l ≡ blanks → Enters (λ l. l) (recipe_trail (length l) steps n w) l a b z r l' a' b' z' →
      q ≡ ran_of r l' n → Runs (recipe_trail 16 steps n w) a b z q a' b' z'
  went-own {l} {l'} {a} {b} {z} {a'} {b'} {z'} {r} k e d = went-blank (subst (λ (x : List Row). Enters (λ l. l) (recipe_trail (length x) steps n w) x a b z r l' a' b' z') k e) d
