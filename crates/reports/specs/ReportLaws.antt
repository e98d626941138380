-- Laws of the report in the shape of the code's needs: a refused file, what a good one leaves, its recipe and its lines. Assumes nothing.
use Rattle.std.specs.Prelude.{Ok, Err}
use Rattle.std.specs.Prelude.{◌≡◌, ℕ, ◌+◌, ◌*◌, ◌≤◌, length, take, drop, Float}
use Rattle.std.proofs.Math.Path.{refl, sym, ap, subst}
use Rattle.std.proofs.Common.{◌∙◌, ap₂, zero-add, arith, length-append, length-take-le, take_at, take_all, le-ltb}
use mathlib.Core.List.{List, []}
use Rattle.slices.specs.Lists.{over, sets_over}
use Rattle.rule.specs.Flat.{flat, offsets_of, length-offsets}
use Rattle.steps.specs.Steps.{Mesh, Room, mesh}
use Rattle.steps.specs.declared.Step.{Step}
use Rattle.chain.specs.Trail.{trail, answer_to}
use Rattle.chain.specs.declared.Ran.{Ran}
use Rattle.runner.specs.Run.{blanks, Went}
use Rattle.recipes.specs.Recipe.{unmasked, recipe_trail}
use Rattle.recipes.specs.RecipeLaws.{rows-most}
use Rattle.panel.specs.Filed.{Filed}
use Rattle.panel.specs.Filed.{Fine, Refused}
use Rattle.panel.specs.Format.{Contents, contents, Reading, refused, holds, reading_as, reading, checked, lent, filed_of, Read, steps_of, fillers, faces_at, positions_at, float_at, step_at}
use Rattle.panel.specs.Laws.{KnownAs, known, filed-is, length_run, length-faces}
use Rattle.text.specs.Text.{Put}
use Rattle.lines.specs.Lines.{file_line, lines_of}
use Rattle.lines.specs.Told.{run_lines}
use Rattle.lines.specs.LineLaws.{Ends, trail-ends, lines_are}
use Rattle.reports.specs.Report.{roomy, trail_of, told, report_of, Holds}
use Rattle.reports.specs.Front.{front-reading, room-enough}

-- ---- a recipe and its lines

module _ (steps : List Step) (n : ℕ) (w : Mesh) (a b z : Room) (few : n ≤ 16) (has : n ≤ length steps) where
  is-trail : recipe_trail 16 steps n w a b z ≡ trail unmasked (take n steps) 1 w a b z
  unfolding recipe_trail
  is-trail = rw (le-ltb 16 n few) refl

  recipe-ends : Ends (answer_to (recipe_trail 16 steps n w a b z)) (length (recipe_trail 16 steps n w a b z).rows) n
  recipe-ends =
      let l : length (take n steps) ≡ n = length-take-le n steps has in
      rw is-trail (subst (λ (k : ℕ). Ends (answer_to (trail unmasked (take n steps) 1 w a b z)) (length (trail unmasked (take n steps) 1 w a b z).rows) k) l (trail-ends unmasked (take n steps) 1 w a b z))

  pub recipe-lines : {ma mb mz ma' mb' mz' : Mesh} {r : Ran} → Went (recipe_trail 16 steps n w a b z) ma mb mz r ma' mb' mz' → run_lines r n ≡ lines_of (recipe_trail 16 steps n w a b z)
  recipe-lines {r = r} e = lines_are (recipe_trail 16 steps n w a b z) blanks r n e.ended.answer e.rows e.done (rows-most 16 steps n w a b z) recipe-ends

pub recipe-told : (steps : List Step) (n : ℕ) (w : Mesh) (a b z : Room) {ma mb mz ma' mb' mz' : Mesh} {r : Ran} {t : List ℕ} {k : ℕ} {t' : List ℕ} → n ≤ 16 → n ≤ length steps →
    Went (recipe_trail 16 steps n w a b z) ma mb mz r ma' mb' mz' → Put (run_lines r n) 0 t k t' → Put (lines_of (recipe_trail 16 steps n w a b z)) 0 t k t'
recipe-told steps n w a b z {t = t} {k = k} {t' = t'} few has e p = subst (λ (l : List ℕ). Put l 0 t k t') (recipe-lines steps n w a b z few has e) p

-- ---- a file that is refused

-- what the report says of an answer of the reader
abbrev pub file_says : Filed → List ℕ
file_says (Ok h) = []
file_says (Err r) = file_line r.number r.place

abbrev is_fine : Filed → ℕ
is_fine (Ok h) = 1
is_fine (Err r) = 0

not-both : {a b n v f c : ℕ} → Refused a b ≡ Fine n v f c → ⊥
not-both e = let z : ◌≡◌ {A = ℕ} 0 1 = ap is_fine e in omega (arith, z)

abbrev steps_said : Filed → ℕ
steps_said (Ok h) = h.steps
steps_said (Err r) = 0

abbrev positions_said : Filed → ℕ
positions_said (Ok h) = h.positions
positions_said (Err r) = 0

abbrev faces_said : Filed → ℕ
faces_said (Ok h) = h.faces
faces_said (Err r) = 0

abbrev corners_said : Filed → ℕ
corners_said (Ok h) = h.corners
corners_said (Err r) = 0

-- the front of a run that was written over is what was written
front-over : {A : Type 0} (new old : List A) (k : ℕ) → k ≡ length new → (take k (over new old) ≡ new) × (k ≤ length (over new old))
front-over new old k e = (
  ap (λ (j : ℕ). take j (over new old)) e ∙ take_at new (drop (length new) old) (length new) refl,
  omega (arith, e, length-append new (drop (length new) old)),
)

-- what a file that was read leaves: its contents, at the front of the lent runs
pub record Held (s o k : List ℕ) (x : List Float) (n v f c : ℕ) : Type 0 where
  pub has : Contents
  pub is : reading s ≡ holds has
  pub steps : n ≡ length has.steps
  pub few : n ≤ 16
  pub offsets : (take (f + 1) o ≡ offsets_of has.faces) × (f + 1 ≤ length o)
  pub corners : (take c k ≡ flat has.faces) × (c ≤ length k)
  pub coords : (take (3 * v) x ≡ has.coords) × (3 * v ≤ length x)

module _ (s : List ℕ) {o k : List ℕ} {x : List Float} {lo lk lx : ℕ} {r : Filed} {o' k' : List ℕ} {x' : List Float} (ho : 401 ≤ lo) (hk : 1200 ≤ lk) (hx : 1200 ≤ lx) (e : Read (lent (reading s) lo lk lx) o k x r o' k' x') where
  all_read : Read (reading s) o k x r o' k' x'
  all_read = subst (λ (q : Reading). Read q o k x r o' k' x') (room-enough s lo lk lx ho hk hx) e

  pub refused-told : {a b : ℕ} {t : List ℕ} {n : ℕ} {t' : List ℕ} → r ≡ Refused a b → Put (file_says r) 0 t n t' → Put (report_of s) 0 t n t'
  unfolding report_of
  refused-told {t = t} {n = n} {t' = t'} w p = subst (λ (l : List ℕ). Put l 0 t n t') (go (reading s) refl) p
    where
      go : (q : Reading) → reading s ≡ q → file_says r ≡ told q
      go (refused number place) p = ap file_says (all_read.answer ∙ ap filed_of p)
      go (holds q) p = absurd (not-both (sym w ∙ all_read.answer ∙ ap filed_of p))

  held_by : (q : Filed) → checked s ≡ q → KnownAs s q → {n v f c : ℕ} → r ≡ Fine n v f c → Held s o' k' x' n v f c
  unfolding reading contents
  held_by (Err r) p g w = absurd (not-both (sym (all_read.answer ∙ ap (λ (q : Filed). filed_of (reading_as s q)) p) ∙ w))
  held_by (Ok h1) p g {n} {v} {f} {c} w =
      let h : Contents = contents s h1.steps h1.positions h1.faces in
      let i : reading s ≡ holds h = ap (reading_as s) p in
      let t : Fine n v f c ≡ Fine h1.steps h1.positions h1.faces h1.corners = sym w ∙ all_read.answer ∙ ap filed_of i ∙ sym (filed-is s h1.steps h1.positions h1.faces h1.corners g) in
      let tn : n ≡ h1.steps = ap steps_said t in
      let tv : v ≡ h1.positions = ap positions_said t in
      let tf : f ≡ h1.faces = ap faces_said t in
      let tc : c ≡ h1.corners = ap corners_said t in
      let all : Read (holds h) o k x r o' k' x' = subst (λ (q : Reading). Read q o k x r o' k' x') i all_read in
      let po = front-over (offsets_of h.faces) o (f + 1) (omega (arith, tf, length-offsets h.faces, length-faces s (faces_at h1.steps h1.positions + 4) h1.faces)) in
      let pk = front-over (flat h.faces) k c (tc ∙ g.corners) in
      let px = front-over h.coords x (3 * v) (ap (λ (j : ℕ). 3 * j) tv ∙ sym (length_run (float_at s) 4 (positions_at h1.steps + 4) (3 * h1.positions))) in
      record {
        has = h;
        is = i;
        steps = tn ∙ sym (length_run (step_at s) 16 4 h1.steps);
        few = omega (arith, tn, g.few-steps);
        offsets = rw all.offsets po;
        corners = rw all.corners pk;
        coords = rw all.coords px;
      }

  pub held : {n v f c : ℕ} → r ≡ Fine n v f c → Held s o' k' x' n v f c
  held w = held_by (checked s) refl (known s) w

-- ---- the report of a file that was read

same-steps : (steps more : List Step) (n : ℕ) (w : Mesh) (a b z : Room) → n ≡ length steps → recipe_trail 16 (over steps more) n w a b z ≡ recipe_trail 16 steps n w a b z
unfolding recipe_trail
same-steps steps more n w a b z e =
    let l : take n (over steps more) ≡ take n steps = (front-over steps more n e).0 ∙ sym (take_all n steps (omega (arith, e))) in
    rw l refl

pub report-told : {s o k : List ℕ} {x : List Float} {n v f c : ℕ} {list : List Step} {t : List ℕ} {r : ℕ} {t' : List ℕ} (h : Held s o k x n v f c) → list ≡ over (steps_of (reading s)) fillers →
    Put (lines_of (recipe_trail 16 list n (mesh (take (f + 1) o) (take c k) (take (3 * v) x)) roomy roomy roomy)) 0 t r t' → Put (report_of s) 0 t r t'
unfolding report_of trail_of
report-told {s} {o} {k} {x} {n} {v} {f} {c} {list} {t} {r} {t'} h e p =
    let q : Contents = h.has in
    let w : list ≡ over q.steps fillers = e ∙ ap (λ (y : Reading). over (steps_of y) fillers) h.is in
    let m : mesh (take (f + 1) o) (take c k) (take (3 * v) x) ≡ mesh (offsets_of q.faces) (flat q.faces) q.coords = λ i. mesh (h.offsets.0 i) (h.corners.0 i) (h.coords.0 i) in
    let g : recipe_trail 16 list n (mesh (take (f + 1) o) (take c k) (take (3 * v) x)) roomy roomy roomy ≡ trail_of q =
    ap₂ (λ (l : List Step) (y : Mesh). recipe_trail 16 l n y roomy roomy roomy) w m
    ∙ same-steps q.steps fillers n (mesh (offsets_of q.faces) (flat q.faces) q.coords) roomy roomy roomy h.steps
    ∙ ap (λ (j : ℕ). recipe_trail 16 q.steps j (mesh (offsets_of q.faces) (flat q.faces) q.coords) roomy roomy roomy) h.steps in
    subst (λ (l : List ℕ). Put l 0 t r t') (ap lines_of g ∙ ap told (sym h.is)) p

-- ---- one byte more than the longest good file is enough of it

-- a text that fits the lent bytes
held-text : {s t : List ℕ} {r : ℕ} {t' : List ℕ} → r ≤ length t → Put s 0 t r t' → Holds s t r t'
held-text {s} {t} {r} {t'} h p =
    let e : r ≡ length s = p.end ∙ zero-add (length s) in
    let w : t' ≡ over s t = p.text ∙ sets_over t s (omega (arith, e)) in
    record { is = ap (take r) w ∙ (front-over s t r e).0; rest = w }

pub front-told : (bytes : List ℕ) (n got : ℕ) {t : List ℕ} {r : ℕ} {t' : List ℕ} → 11469 ≤ length bytes → take got bytes ≡ take n bytes → r ≤ length t →
    Put (report_of (take got bytes)) 0 t r t' → (file : List ℕ) → take n bytes ≡ take (length bytes) file → Holds (report_of file) t r t'
unfolding report_of
front-told bytes n got {t} {r} {t'} h w l p file e = held-text l (subst (λ (l : List ℕ). Put l 0 t r t') (ap report_of (w ∙ e) ∙ ap told (front-reading file (length bytes) h)) p)

pub took-all : (bytes : List ℕ) (n got : ℕ) → length bytes ≤ got → length bytes ≤ n → take got bytes ≡ take n bytes
took-all bytes n got g h = take_all got bytes g ∙ sym (take_all n bytes h)
