-- Demand 3 along a recipe: V - E + F is the same in every row of the ledger. Assumes nothing.
use Rattle.std.specs.Prelude.{◌≡◌, refl, Bool, true, false, cond, List, [], ◌∷◌, ℕ, ◌+◌, length, Float}
use Rattle.std.proofs.Common.{sym, true≢false, arith}
use Rattle.rule.specs.Flat.{flat, offsets_of, length-offsets}
use Rattle.engine.specs.Result.{Outcome, refused, result}
use Rattle.steps.specs.Steps.{Mesh, Room, Masks, mesh, step_on}
use Rattle.steps.specs.declared.Step.{Step}
use Rattle.chain.specs.Trail.{Trail, row_of, lastly, onward, trail}
use Rattle.chain.specs.declared.Row.{Row}
use Rattle.lasting.specs.Demand3.{steady, positions_in, edges_in, faces_in, Passes, SameX, excused, Lasts}
use Rattle.lasting.proofs.Demand3Proof.{one-step}

-- ---- what is said of a list of steps on the mesh w

-- V - E + F of a row is that of the mesh
abbrev pub SameRow : Mesh → Row → Type 0
SameRow w r = r.v + r.f + edges_in w ≡ positions_in w + faces_in w + r.e

unfoldable pub Rows : Mesh → List Row → Type 0
Rows w [] = Unit
Rows w (r ∷ rs) = SameRow w r × Rows w rs

-- the list was refused with an excuse, or the last mesh passes again and has the same V - E + F
abbrev pub Closing : Mesh → Outcome → Type 0
Closing w (refused n p) = excused n ≡ true
Closing w (result fs xs) = Passes (mesh (offsets_of fs) (flat fs) xs) × SameX w (mesh (offsets_of fs) (flat fs) xs)

pub record Steady (w : Mesh) (t : Trail) : Type 0 where
  pub rows : Rows w t.rows
  pub closing : Closing w t.end

unfoldable pub all_steady : List Step → Bool
all_steady [] = true
all_steady (s ∷ ss) = cond (steady s) (all_steady ss) false

-- ---- it holds

both : (a b : Bool) → cond a b false ≡ true → (a ≡ true) × (b ≡ true)
both true b e = (refl, e)
both false b e = absurd (true≢false (sym e))

-- the row of a mesh that a step made
row_same : (w : Mesh) (s : Step) (fs : List (List ℕ)) (xs : List Float) → SameX w (mesh (offsets_of fs) (flat fs) xs) → SameRow w (row_of s fs xs)
row_same w s fs xs e =
    let f : faces_in (mesh (offsets_of fs) (flat fs) xs) ≡ length fs = omega (arith, length-offsets fs) in
    omega (arith, e, f)

-- what is said from a mesh on that has the same V - E + F is said from the first on
rows-from : (w v : Mesh) → SameX w v → (rs : List Row) → Rows v rs → Rows w rs
unfolding Rows
rows-from w v e [] h = tt
rows-from w v e (r ∷ rs) h = (omega (arith, e, h.0), rows-from w v e rs h.1)

closing-from : (w v : Mesh) → SameX w v → (q : Outcome) → Closing v q → Closing w q
closing-from w v e (refused n p) h = h
closing-from w v e (result fs xs) h = (h.0, omega (arith, e, h.1))

ends : (m : Masks) (s : Step) (i : ℕ) (w : Mesh) (q : Outcome) → Lasts m s w q → Steady w (lastly s i q)
unfolding Rows
ends m s i w (refused n p) l = record { rows = tt; closing = l }
ends m s i w (result fs xs) l = record { rows = (row_same w s fs xs l.same, tt); closing = (l.passes, l.same) }

goes : (m : Masks) (s : Step) (i : ℕ) (w : Mesh) (q : Outcome) (go : Mesh → Trail) → Lasts m s w q → ((v : Mesh) → Passes v → Steady v (go v)) → Steady w (onward s i q go)
unfolding Rows
goes m s i w (refused n p) go l h = record { rows = tt; closing = l }
goes m s i w (result fs xs) go l h =
    let v = mesh (offsets_of fs) (flat fs) xs in
    let t = h v l.passes in
    record { rows = (row_same w s fs xs l.same, rows-from w v l.same (go v).rows t.rows); closing = closing-from w v l.same (go v).end t.closing }

-- one step or more, each of the six, on a mesh that passes, with any masks and in any room
pub trail-steady :
    (m : Masks) (s : Step) (ss : List Step) (i : ℕ) (w : Mesh) (a b z : Room) → all_steady (s ∷ ss) ≡ true → Passes w → Steady w (trail m (s ∷ ss) i w a b z)
unfolding all_steady trail
trail-steady m s [] i w a b z e p =
    let h = both (steady s) true e in
    ends m s i w (step_on m s w z) (one-step m s w z h.0 p)
trail-steady m s (t ∷ ts) i w a b z e p =
    let h = both (steady s) (all_steady (t ∷ ts)) e in
    goes m s i w (step_on m s w a) (λ (v : Mesh). trail m (t ∷ ts) (i + 1) v b a z) (one-step m s w a h.0 p) (λ v q. trail-steady m t ts (i + 1) v b a z h.1 q)
