-- The whole check and the two passes of the reader, from the parts that the code has at hand. Assumes nothing.
use Rattle.std.specs.Prelude.{Ok, Err}
use Rattle.std.specs.Prelude.{◌≡◌, refl, List, [], ◌∷◌, ◌++◌, ℕ, ◌+◌, ◌-◌, ◌*◌, ◌<◌, ◌≤◌, length, replicate, Float}
use Rattle.std.proofs.Common.{sym, ◌∙◌, ap, ap₂, subst, arith}
use Rattle.std.proofs.lemmas.List.Edits.{sets}
use Rattle.slices.specs.Lists.{over, sets_over}
use Rattle.rule.specs.Flat.{flat, offsets_of, length-offsets}
use Rattle.steps.specs.declared.Step.{Step}
use Rattle.parts.specs.Part.{Part}
use Rattle.parts.specs.Part.{Has, Stops}
use Rattle.parts.specs.Parts.{count_at, step_says, whole_says, section, faces}
use Rattle.panel.specs.Filed.{Filed}
use Rattle.panel.specs.Filed.{Fine, Refused}
use Rattle.panel.specs.Format.{settle, positions_at, faces_at, end_at, ending, checked, run, float_at, step_at, faces_from, contents, Reading, refused, holds, reading_as, reading, lent, filed_of, Read, steps_of, fillers}
use Rattle.panel.specs.Laws.{refusal_of, settle-stop, settle-on, Known, KnownAs, known, fitted_of, Fitting, FittingAs, fitting, filed-is, reading-is, length_run, length-faces}
use Rattle.panel.specs.Written.{Placed, PutFaces, step_count}

-- ---- the check

pub positions-at :
    (s : List ℕ) (w n : ℕ) (r : Part) → w ≡ n → r ≡ section s (4 + 16 * w) 400 12 (whole_says s 12) → r ≡ section s (positions_at n) 400 12 (whole_says s 12)
positions-at s w n r e q = q ∙ ap (λ (x : ℕ). section s (4 + 16 * x) 400 12 (whole_says s 12)) e

pub count-place : (s : List ℕ) (w n u v : ℕ) (r : Part) → w ≡ n → u ≡ v → r ≡ count_at s (8 + 16 * w + 12 * u) 400 → r ≡ count_at s (faces_at n v) 400
count-place s w n u v r e d q = q ∙ ap₂ (λ (x y : ℕ). count_at s (8 + 16 * x + 12 * y) 400) e d

pub corners-at :
    (s : List ℕ) (w n u v z f : ℕ) (r : Part) → w ≡ n → u ≡ v → z ≡ f → r ≡ faces s (8 + 16 * w + 12 * u + 4) 0 z → r ≡ faces s (faces_at n v + 4) 0 f
corners-at s w n u v z f r e d h q =
    q ∙ ap₂ (λ (x y : ℕ). faces s (8 + 16 * x + 12 * y + 4) 0 z) e d ∙ ap (faces s (faces_at n v + 4) 0) h

abbrev pub from_corners : List ℕ → ℕ → ℕ → ℕ → Filed
from_corners s n v f = settle (faces s (faces_at n v + 4) 0 f) (λ c. ending s n v f c)

abbrev pub from_faces : List ℕ → ℕ → ℕ → Filed
from_faces s n v = settle (count_at s (faces_at n v) 400) (λ f. from_corners s n v f)

abbrev pub from_positions : List ℕ → ℕ → Filed
from_positions s n = settle (section s (positions_at n) 400 12 (whole_says s 12)) (λ v. from_faces s n v)

pub steps-stop : (s : List ℕ) (r : Part) (q : Filed) {a b : ℕ} → r ≡ section s 0 16 16 (step_says s) → r ≡ Stops a b → q ≡ refusal_of r → q ≡ checked s
unfolding checked
steps-stop s r q e h w = settle-stop _ r (λ n. from_positions s n) q e h w

pub steps_on : (s : List ℕ) (r : Part) (q : Filed) {n : ℕ} → r ≡ section s 0 16 16 (step_says s) → r ≡ Has n → q ≡ from_positions s n → q ≡ checked s
unfolding checked
steps_on s r q e h w = settle-on _ r (λ n. from_positions s n) q e h w

pub positions-stop :
    (s : List ℕ) (n : ℕ) (r : Part) (q : Filed) {a b : ℕ} → r ≡ section s (positions_at n) 400 12 (whole_says s 12) → r ≡ Stops a b → q ≡ refusal_of r → q ≡ from_positions s n
positions-stop s n r q e h w = settle-stop _ r (λ v. from_faces s n v) q e h w

pub positions-on :
    (s : List ℕ) (n : ℕ) (r : Part) (q : Filed) {v : ℕ} → r ≡ section s (positions_at n) 400 12 (whole_says s 12) → r ≡ Has v → q ≡ from_faces s n v → q ≡ from_positions s n
positions-on s n r q e h w = settle-on _ r (λ v. from_faces s n v) q e h w

pub count-stop :
    (s : List ℕ) (n v : ℕ) (r : Part) (q : Filed) {a b : ℕ} → r ≡ count_at s (faces_at n v) 400 → r ≡ Stops a b → q ≡ refusal_of r → q ≡ from_faces s n v
count-stop s n v r q e h w = settle-stop _ r (λ f. from_corners s n v f) q e h w

pub count-on :
    (s : List ℕ) (n v : ℕ) (r : Part) (q : Filed) {f : ℕ} → r ≡ count_at s (faces_at n v) 400 → r ≡ Has f → q ≡ from_corners s n v f → q ≡ from_faces s n v
count-on s n v r q e h w = settle-on _ r (λ f. from_corners s n v f) q e h w

pub corners-stop :
    (s : List ℕ) (n v f : ℕ) (r : Part) (q : Filed) {a b : ℕ} → r ≡ faces s (faces_at n v + 4) 0 f → r ≡ Stops a b → q ≡ refusal_of r → q ≡ from_corners s n v f
corners-stop s n v f r q e h w = settle-stop _ r (λ c. ending s n v f c) q e h w

pub corners-on :
    (s : List ℕ) (n v f : ℕ) (r : Part) (q : Filed) {c : ℕ} → r ≡ faces s (faces_at n v + 4) 0 f → r ≡ Has c → q ≡ ending s n v f c → q ≡ from_corners s n v f
corners-on s n v f r q e h w = settle-on _ r (λ c. ending s n v f c) q e h w

-- ---- reading into lent slices

pub read_fits :
    (s : List ℕ) (lo lk lx : ℕ) (q r : Filed) {n v f c : ℕ} → q ≡ checked s → r ≡ fitted_of q lo lk lx → r ≡ Fine n v f c → Fitting s lo lk lx n v f c
read_fits s lo lk lx q r e w h = subst (FittingAs s lo lk lx) (ap (λ (y : Filed). fitted_of y lo lk lx) (sym e) ∙ sym w ∙ h) (fitting s lo lk lx (checked s) (known s))

pub read-placed :
    (s o k : List ℕ) {lx n v f c : ℕ} (w u z : ℕ) → Fitting s (length o) (length k) lx n v f c → w ≡ n → u ≡ v → z ≡ f →
    Placed s (8 + 16 * w + 12 * u + 4) z o k
read-placed s o k {lx} {n} {v} {f} {c} w u z t e d h =
    let p : 8 + 16 * w + 12 * u + 4 ≡ faces_at n v + 4 = omega arith in
    let g : length (flat (faces_from s (8 + 16 * w + 12 * u + 4) z)) ≡ c = ap₂ (λ (x y : ℕ). length (flat (faces_from s x y))) p h ∙ sym t.known.corners in
    record {
      bytes = omega (arith, g, t.known.long);
      offsets = omega (arith, t.offsets);
      corners = omega (arith, g, t.corners);
      few = omega (arith, g, t.known.few-corners);
    }

pub read-stop :
    (s o k : List ℕ) (x : List Float) (q r : Filed) {a b : ℕ} → q ≡ checked s → r ≡ fitted_of q (length o) (length k) (length x) → r ≡ Refused a b →
    Read (lent (reading s) (length o) (length k) (length x)) o k x r o k x
read-stop s o k x q r {a} {b} e w h =
    let z : lent (reading s) (length o) (length k) (length x) ≡ refused a b = reading-is s (length o) (length k) (length x) q r e w ∙ ap (reading_as s) h in
    subst (λ (y : Reading). Read y o k x r o k x) (sym z) (record { answer = h; offsets = refl; corners = refl; coords = refl })

read-holds :
    (s o k o' k' : List ℕ) (x x' : List Float) (n v f c : ℕ) → Fitting s (length o) (length k) (length x) n v f c →
    o' ≡ sets o 0 (offsets_of (faces_from s (faces_at n v + 4) f)) → k' ≡ sets k 0 (flat (faces_from s (faces_at n v + 4) f)) →
    x' ≡ sets x 0 (run (float_at s) 4 (positions_at n + 4) (3 * v)) → Read (holds (contents s n v f)) o k x (Fine n v f c) o' k' x'
unfolding contents
read-holds s o k o' k' x x' n v f c t p q r =
    let fs : List (List ℕ) = faces_from s (faces_at n v + 4) f in
    let a : length (offsets_of fs) ≤ length o = omega (arith, length-offsets fs, length-faces s (faces_at n v + 4) f, t.offsets) in
    let b : length (flat fs) ≤ length k = omega (arith, t.known.corners, t.corners) in
    let d : length (run (float_at s) 4 (positions_at n + 4) (3 * v)) ≤ length x = omega (arith, length_run (float_at s) 4 (positions_at n + 4) (3 * v), t.coords) in
    record {
      answer = filed-is s n v f c t.known;
      offsets = p ∙ sets_over o (offsets_of fs) a;
      corners = q ∙ sets_over k (flat fs) b;
      coords = r ∙ sets_over x (run (float_at s) 4 (positions_at n + 4) (3 * v)) d;
    }

pub read_done :
    (s o k o' k' : List ℕ) (x x' : List Float) (q r : Filed) (w u z : ℕ) {n v f c : ℕ} → q ≡ checked s → r ≡ fitted_of q (length o) (length k) (length x) →
    r ≡ Fine n v f c → w ≡ n → u ≡ v → z ≡ f → x' ≡ sets x 0 (run (float_at s) 4 (8 + 16 * w) (3 * u)) →
    PutFaces (faces_from s (8 + 16 * w + 12 * u + 4) z) o k o' k' → Read (lent (reading s) (length o) (length k) (length x)) o k x (Fine n v f c) o' k' x'
read_done s o k o' k' x x' q r w u z {n} {v} {f} {c} e d h ew eu ez px pf =
    let t : Fitting s (length o) (length k) (length x) n v f c = read_fits s (length o) (length k) (length x) q r e d h in
    let y : lent (reading s) (length o) (length k) (length x) ≡ holds (contents s n v f) = reading-is s (length o) (length k) (length x) q r e d ∙ ap (reading_as s) h in
    let a : 8 + 16 * w + 12 * u + 4 ≡ faces_at n v + 4 = omega arith in
    let b : 8 + 16 * w ≡ positions_at n + 4 = omega arith in
    let fs : faces_from s (8 + 16 * w + 12 * u + 4) z ≡ faces_from s (faces_at n v + 4) f = ap₂ (faces_from s) a ez in
    subst (λ (l : Reading). Read l o k x (Fine n v f c) o' k' x') (sym y)
    (read-holds s o k o' k' x x' n v f c t
    (pf.offsets ∙ ap (λ (l : List (List ℕ)). sets o 0 (offsets_of l)) fs)
    (pf.corners ∙ ap (λ (l : List (List ℕ)). sets k 0 (flat l)) fs)
    (px ∙ ap₂ (λ (i j : ℕ). sets x 0 (run (float_at s) 4 i (3 * j))) b eu))

-- ---- the steps

few-steps : (s : List ℕ) (q : Filed) → KnownAs s q → step_count q ≤ 16
few-steps s (Ok h) k = k.few-steps
few-steps s (Err r) k = omega arith

long-steps : (s : List ℕ) (q : Filed) (i : ℕ) → KnownAs s q → i < step_count q → 4 + 16 * i + 16 ≤ length s
long-steps s (Ok h1) i k h = omega (arith, k.long)
long-steps s (Err r) i k h = absurd (omega arith)

steps-are : (s : List ℕ) (q : Filed) → steps_of (reading_as s q) ≡ run (step_at s) 16 4 (step_count q)
unfolding contents run
steps-are s (Ok h) = refl
steps-are s (Err r) = refl

pub step_in : (s : List ℕ) (q : Filed) (n i : ℕ) → q ≡ checked s → n ≡ step_count q → i < n → (i < 16) × (4 + 16 * i + 16 ≤ length s)
step_in s q n i e w h =
    let k : KnownAs s q = subst (KnownAs s) (sym e) (known s) in
    let m = few-steps s q k in
    (omega arith, long-steps s q i k (omega arith))

pub steps_all :
    (s : List ℕ) (q : Filed) (n i : ℕ) (l : List Step) → q ≡ checked s → n ≡ step_count q → i ≡ n → l ≡ sets fillers 0 (run (step_at s) 16 4 i) →
    l ≡ over (steps_of (reading s)) fillers
unfolding reading
steps_all s q n i l e w h p =
    let m = few-steps s q (subst (KnownAs s) (sym e) (known s)) in
    let a : length (run (step_at s) 16 4 (step_count q)) ≤ 16 = omega (arith, length_run (step_at s) 16 4 (step_count q)) in
    p ∙ ap (λ (j : ℕ). sets fillers 0 (run (step_at s) 16 4 j)) (h ∙ w)
    ∙ sets_over fillers (run (step_at s) 16 4 (step_count q)) a
    ∙ ap (λ (y : List Step). over y fillers) (sym (steps-are s q) ∙ ap (λ (y : Filed). steps_of (reading_as s y)) e)

-- what a file that is fine is known to hold
pub known_fine : (s : List ℕ) {n v f c : ℕ} → Fine n v f c ≡ checked s → Known s n v f c
known_fine s e = subst (KnownAs s) (sym e) (known s)
