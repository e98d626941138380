-- A table that can only refuse for an excused number, and what a call with it comes to: one lemma for the six. Assumes nothing.
use Rattle.std.specs.Prelude.{◌≡◌, refl, Ok, Err, Bool, true, false, cond, List, [], ◌∷◌, ◌++◌, ℕ, ◌*◌, ◌/◌, length, Float}
use Rattle.std.proofs.Common.{sym, ◌∙◌, ap, subst, arith}
use Rattle.slices.specs.First.{first, any}
use Rattle.mesh.specs.Mesh.{faces}
use Rattle.mesh.specs.Edges.{edges}
use Rattle.mesh.specs.Ranks.{halves}
use Rattle.mesh.specs.Tests.{Test, verdict, number_of, verdict-append, both-good, tests-good}
use Rattle.mesh.specs.Verdict.{Verdict, Good, Bad}
use Rattle.rule.specs.Named.{positions}
use Rattle.rule.specs.Flat.{flat, offsets_of, length-offsets}
use Rattle.engine.specs.Result.{room_tests, finite_tests, asked, table, outcome_of, outcome}
use Rattle.engine.specs.ResultLaws.{by-groups}
use Rattle.engine.specs.declared.Asks.TheVariants.{Closed}
use Rattle.operators.specs.Numbers.{number_tests}
use Rattle.operators.specs.Number.{Number}
use Rattle.steps.specs.Steps.{Mesh, Masks, mesh}
use Rattle.steps.specs.declared.Step.{Step}
use Rattle.closed.specs.Keeps.{Keeps}
use Rattle.lasting.specs.Demand3.{Passes, edges_in, edges_after, Kept, excused, Lasts}
use Rattle.lasting.specs.Again.{shell, again}

-- ---- tests whose numbers are excused
unfoldable Excusing : List Test → Type 0
Excusing [] = Unit
Excusing (r ∷ rs) = (excused r.number ≡ true) × Excusing rs

which : (b : Bool) (m q n p : ℕ) (v : Verdict) → excused m ≡ true → (v ≡ Bad n p → excused n ≡ true) → cond b (Bad m q) v ≡ Bad n p → excused n ≡ true
which true m q n p v e f h = let z : m ≡ n = ap number_of h in rw z at e
which false m q n p v e f h = f h

excused-by : (rs : List Test) → Excusing rs → (n p : ℕ) → verdict rs ≡ Bad n p → excused n ≡ true
unfolding verdict Excusing
excused-by [] e n p h = absurd (let z : ◌≡◌ {A = ℕ} 0 1 = cc in omega arith)
excused-by (r ∷ rs) e n p h = which (any r.holds r.places) r.number (first r.holds r.places) n p (verdict rs) e.0 (excused-by rs e.1 n p) h

-- ---- what is left of the table on a mesh that passes: 3, 12, 13 and 14
abbrev left : Number → Number → List (List ℕ) → List Float → ℕ → ℕ → ℕ → List Test
left t h fs xs lo lc lx = number_tests t h ++ (room_tests (length fs) (length (flat fs)) (length xs) lo lc lx ++ finite_tests xs)

left-excused : (t h : Number) (fs : List (List ℕ)) (xs : List Float) (lo lc lx : ℕ) → Excusing (left t h fs xs lo lc lx)
unfolding number_tests room_tests finite_tests Excusing
left-excused t h fs xs lo lc lx = (refl, (refl, (refl, (refl, tt))))

table-left :
    (o k : List ℕ) (x : List Float) (t h : Number) (fs : List (List ℕ)) (xs : List Float) (lo lc lx : ℕ) → Passes (mesh o k x) →
    verdict (table Closed o k x (number_tests t h) fs xs lo lc lx) ≡ verdict (left t h fs xs lo lc lx)
unfolding asked
table-left o k x t h fs xs lo lc lx e =
    let g = tests-good o k x e in
    by-groups Closed o k x (number_tests t h) fs xs lo lc lx
    ∙ rw (g.0, g.1.0, g.1.1, verdict-append (number_tests t h), verdict-append (room_tests (length fs) (length (flat fs)) (length xs) lo lc lx))

-- ---- the mesh made

-- the faces fs and the coordinates xs are on as many positions, and keep the mesh closed, with e edges
pub record Grown (w : Mesh) (fs : List (List ℕ)) (xs : List Float) (e : ℕ) : Type 0 where
  pub keeps : Keeps w.offsets w.corners (positions w.coords) (positions xs) fs e
  pub whole : 3 * positions xs ≡ length xs

pub grown : (w : Mesh) {fs : List (List ℕ)} {e : ℕ} (xs : List Float) {v : ℕ} → Keeps w.offsets w.corners (positions w.coords) v fs e → length xs ≡ 3 * v → Grown w fs xs e
grown w {fs} {e} xs {v} s l =
    let p : v ≡ positions xs = omega arith in
    record { keeps = subst (λ (n : ℕ). Keeps w.offsets w.corners (positions w.coords) n fs e) p s; whole = omega arith }

-- half the corners of a mesh that passes are its edges
pub edges-half : (w : Mesh) → Passes w → edges w.offsets w.corners ≡ edges_in w
edges-half w e = let h = halves w.offsets w.corners (shell w.offsets w.corners w.coords e).surface in omega arith

module _ (m : Masks) (s : Step) (w : Mesh) {fs : List (List ℕ)} {xs : List Float} {e : ℕ} (p : Passes w) (g : Grown w fs xs e) (d : e ≡ edges_after m s w) where
  made_kept : Passes (mesh (offsets_of fs) (flat fs) xs) → Kept m s w (mesh (offsets_of fs) (flat fs) xs)
  made_kept q =
      let c : length (flat fs) ≡ 2 * e = g.keeps.corners in
      let f : faces (offsets_of fs) ≡ length fs = omega (arith, length-offsets fs) in
      record {
        passes = q;
        edges = let z : length (flat fs) / 2 ≡ e = omega arith in z ∙ d;
        same = omega (arith, g.keeps.same, edges-half w p, c, f);
      }

  module _ (t h : Number) (lo lc lx : ℕ) where
    left-good : verdict (left t h fs xs lo lc lx) ≡ Good → Passes (mesh (offsets_of fs) (flat fs) xs)
    left-good q =
        let u = both-good (verdict (number_tests t h)) _ (sym (verdict-append (number_tests t h) (room_tests (length fs) (length (flat fs)) (length xs) lo lc lx ++ finite_tests xs)) ∙ q) in
        let v = both-good (verdict (room_tests (length fs) (length (flat fs)) (length xs) lo lc lx)) _ (sym (verdict-append (room_tests (length fs) (length (flat fs)) (length xs) lo lc lx) (finite_tests xs)) ∙ u.1) in
        again fs xs lo lc lx g.keeps.shell g.whole v.0 v.1

    by-verdict : (v : Verdict) → verdict (left t h fs xs lo lc lx) ≡ v → Lasts m s w (outcome_of v fs xs)
    by-verdict (Ok _) q = made_kept (left-good q)
    by-verdict (Err r) q = excused-by (left t h fs xs lo lc lx) (left-excused t h fs xs lo lc lx) r.number r.place q

    -- a call of an operator that asks 8 and 9 and has the numbers t and h
    pub call-lasts : Lasts m s w (outcome Closed w.offsets w.corners w.coords (number_tests t h) fs xs lo lc lx)
    unfolding outcome
    call-lasts = by-verdict _ (sym (table-left w.offsets w.corners w.coords t h fs xs lo lc lx p))
