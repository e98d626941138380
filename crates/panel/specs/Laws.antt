-- Laws of the whole file: what is known of one that passes, and number 13. Assumes nothing.
use Rattle.std.specs.Prelude.{Ok, Err}
use Rattle.std.specs.Prelude.{◌≡◌, refl, Bool, true, false, cond, List, [], ◌∷◌, ◌++◌, ℕ, zero, suc, ◌+◌, ◌-◌, ◌*◌, ◌/◌, ◌<◌, ◌≤◌, length, leb, ltb, eqb, Float}
use Rattle.std.proofs.Common.{sym, ◌∙◌, ap, ap₂, subst, true≢false, arith, length-append, leb-true, ltb-true, ltb-false, eqb-true}
use Rattle.std.proofs.lemmas.List.Edits.{sets}
use Rattle.slices.specs.Lists.{over, sets_over}
use Rattle.rule.specs.Flat.{flat, offsets_of, length-offsets}
use Rattle.words.specs.Words.{word_at, whole_at}
use Rattle.panel.specs.Filed.{Filed}
use Rattle.panel.specs.Filed.{Fine, Refused}
use Rattle.parts.specs.Part.{Part}
use Rattle.parts.specs.Part.{Has, Stops}
use Rattle.parts.specs.Parts.{and_then, count_at, step_says, whole_says, section, faces}
use Rattle.parts.specs.Laws.{has-is, apart, count-has, section-has}
use Rattle.panel.specs.Format.{settle, positions_at, faces_at, end_at, ending, checked, run, float_at, step_at, faces_from, contents, Reading, refused, holds, reading_as, reading, lent, filed_of}

abbrev pub refusal_of : Part → Filed
refusal_of (Ok n) = Refused 0 0
refusal_of (Err r) = Refused r.number r.place

pub settle-stop : (p r : Part) (k : ℕ → Filed) (q : Filed) {a b : ℕ} → r ≡ p → r ≡ Stops a b → q ≡ refusal_of r → q ≡ settle p k
settle-stop p r k q e h w = w ∙ ap refusal_of h ∙ ap (λ (x : Part). settle x k) (sym h ∙ e)

pub settle-on : (p r : Part) (k : ℕ → Filed) (q : Filed) {n : ℕ} → r ≡ p → r ≡ Has n → q ≡ k n → q ≡ settle p k
settle-on p r k q e h w = w ∙ ap (λ (x : Part). settle x k) (sym h ∙ e)

pub length_run : {A : Type 0} (g : ℕ → A) (size at n : ℕ) → length (run g size at n) ≡ n
unfolding run
length_run g size at zero = refl
length_run g size at (suc n) = ap suc (length_run g size (at + size) n)

pub length-faces : (s : List ℕ) (at n : ℕ) → length (faces_from s at n) ≡ n
unfolding faces_from
length-faces s at zero = refl
length-faces s at (suc n) = ap suc (length-faces s (at + 4 + 4 * word_at s at) n)

-- how many corners n faces have
pub flat-next : (s : List ℕ) (at n : ℕ) → length (flat (faces_from s at (suc n))) ≡ word_at s at + length (flat (faces_from s (at + 4 + 4 * word_at s at) n))
unfolding faces_from flat
flat-next s at n =
    length-append (run (word_at s) 4 (at + 4) (word_at s at)) (flat (faces_from s (at + 4 + 4 * word_at s at) n))
    ∙ ap (λ (m : ℕ). m + length (flat (faces_from s (at + 4 + 4 * word_at s at) n))) (length_run (word_at s) 4 (at + 4) (word_at s at))

-- the corners of faces that pass: how many, and how many at most
faces-more :
    (s : List ℕ) (at sum n c : ℕ) (p : Part) → sum ≤ 1200 → section s at (1200 - sum) 4 (whole_says s 4) ≡ p →
    ((a : ℕ) → sum + a ≤ 1200 → faces s (at + 4 + 4 * a) (sum + a) n ≡ Has c → (c ≡ sum + a + length (flat (faces_from s (at + 4 + 4 * a) n))) × (c ≤ 1200)) →
    and_then p (λ a. faces s (at + 4 + 4 * a) (sum + a) n) ≡ Has c → (c ≡ sum + length (flat (faces_from s at (suc n)))) × (c ≤ 1200)
faces-more s at sum n c (Err r) h q ih e = absurd (apart e)
faces-more s at sum n c (Ok a) h q ih e =
    let k = section-has s at (1200 - sum) 4 a (whole_says s 4) q in
    let l : a ≤ 1200 - sum = k.1 in
    let d = ih a (omega arith) e in
    let w : a + length (flat (faces_from s (at + 4 + 4 * a) n)) ≡ length (flat (faces_from s at (suc n))) =
    ap (λ (m : ℕ). m + length (flat (faces_from s (at + 4 + 4 * m) n))) k.0 ∙ sym (flat-next s at n) in
    (d.0 ∙ omega (arith, w), d.1)

pub faces-has : (s : List ℕ) (at sum n c : ℕ) → sum ≤ 1200 → faces s at sum n ≡ Has c → (c ≡ sum + length (flat (faces_from s at n))) × (c ≤ 1200)
unfolding faces faces_from flat
faces-has s at sum zero c h e = let q = has-is e in (omega arith, omega arith)
faces-has s at sum (suc n) c h e =
    faces-more s at sum n c (section s at (1200 - sum) 4 (whole_says s 4)) h refl (λ a l q. faces-has s (at + 4 + 4 * a) (sum + a) n c l q) e

-- ---- what is known of a file that passes

pub record Known (s : List ℕ) (n v f c : ℕ) : Type 0 where
  pub few-steps : n ≤ 16
  pub few-positions : v ≤ 400
  pub few-faces : f ≤ 400
  pub few-corners : c ≤ 1200
  pub corners : c ≡ length (flat (faces_from s (faces_at n v + 4) f))
  pub long : length s ≡ end_at n v f c

abbrev pub KnownAs : List ℕ → Filed → Type 0
KnownAs s (Ok h) = Known s h.steps h.positions h.faces h.corners
KnownAs s (Err r) = Unit

known-end :
    (s : List ℕ) (n v f c : ℕ) (b : Bool) → eqb (length s) (end_at n v f c) ≡ b → n ≤ 16 → v ≤ 400 → f ≤ 400 →
    (c ≡ length (flat (faces_from s (faces_at n v + 4) f))) × (c ≤ 1200) → KnownAs s (cond b (Fine n v f c) (Refused 18 (end_at n v f c)))
known-end s n v f c false q hn hv hf hc = tt
known-end s n v f c true q hn hv hf hc =
    record { few-steps = hn; few-positions = hv; few-faces = hf; few-corners = hc.1; corners = hc.0; long = eqb-true (length s) (end_at n v f c) q }

known-corners :
    (s : List ℕ) (n v f : ℕ) (p : Part) → faces s (faces_at n v + 4) 0 f ≡ p → n ≤ 16 → v ≤ 400 → f ≤ 400 → KnownAs s (settle p (λ c. ending s n v f c))
unfolding ending
known-corners s n v f (Err r) q hn hv hf = tt
known-corners s n v f (Ok c) q hn hv hf =
    known-end s n v f c (eqb (length s) (end_at n v f c)) refl hn hv hf (let w = faces-has s (faces_at n v + 4) 0 f c (omega arith) q in (omega (arith, w.0), w.1))

known-faces :
    (s : List ℕ) (n v : ℕ) (p : Part) → count_at s (faces_at n v) 400 ≡ p → n ≤ 16 → v ≤ 400 →
    KnownAs s (settle p (λ f. settle (faces s (faces_at n v + 4) 0 f) (λ c. ending s n v f c)))
known-faces s n v (Err r) q hn hv = tt
known-faces s n v (Ok f) q hn hv = known-corners s n v f (faces s (faces_at n v + 4) 0 f) refl hn hv (count-has s (faces_at n v) 400 f q).1

known-positions :
    (s : List ℕ) (n : ℕ) (p : Part) → section s (positions_at n) 400 12 (whole_says s 12) ≡ p → n ≤ 16 →
    KnownAs s (settle p (λ v. settle (count_at s (faces_at n v) 400) (λ f. settle (faces s (faces_at n v + 4) 0 f) (λ c. ending s n v f c))))
known-positions s n (Err r) q hn = tt
known-positions s n (Ok v) q hn =
    known-faces s n v (count_at s (faces_at n v) 400) refl hn (section-has s (positions_at n) 400 12 v (whole_says s 12) q).1

known-steps :
    (s : List ℕ) (p : Part) → section s 0 16 16 (step_says s) ≡ p →
    KnownAs s (settle p (λ n. settle (section s (positions_at n) 400 12 (whole_says s 12)) (λ v. settle (count_at s (faces_at n v) 400) (λ f. settle (faces s (faces_at n v + 4) 0 f) (λ c. ending s n v f c)))))
known-steps s (Err r) q = tt
known-steps s (Ok n) q =
    known-positions s n (section s (positions_at n) 400 12 (whole_says s 12)) refl (section-has s 0 16 16 n (step_says s) q).1

pub known : (s : List ℕ) → KnownAs s (checked s)
unfolding checked
known s = known-steps s (section s 0 16 16 (step_says s)) refl

-- ---- number 13, by the counts

abbrev pub fitted_of : Filed → ℕ → ℕ → ℕ → Filed
fitted_of (Err r) lo lk lx = Refused r.number r.place
fitted_of (Ok h) lo lk lx = cond (ltb lo (h.faces + 1)) (Refused 13 0) (cond (ltb lk h.corners) (Refused 13 1) (cond (ltb lx (3 * h.positions)) (Refused 13 2) (Fine h.steps h.positions h.faces h.corners)))

-- a file that passes, and what it holds has room
pub record Fitting (s : List ℕ) (lo lk lx n v f c : ℕ) : Type 0 where
  pub known : Known s n v f c
  pub offsets : f + 1 ≤ lo
  pub corners : c ≤ lk
  pub coords : 3 * v ≤ lx

abbrev pub FittingAs : List ℕ → ℕ → ℕ → ℕ → Filed → Type 0
FittingAs s lo lk lx (Ok h) = Fitting s lo lk lx h.steps h.positions h.faces h.corners
FittingAs s lo lk lx (Err r) = Unit

pub fitting : (s : List ℕ) (lo lk lx : ℕ) (q : Filed) → KnownAs s q → FittingAs s lo lk lx (fitted_of q lo lk lx)
fitting s lo lk lx (Err r) k = tt
fitting s lo lk lx (Ok h) k = go (ltb lo (h.faces + 1)) (ltb lk h.corners) (ltb lx (3 * h.positions)) refl refl refl
  where
    go : (x y z : Bool) → ltb lo (h.faces + 1) ≡ x → ltb lk h.corners ≡ y → ltb lx (3 * h.positions) ≡ z → FittingAs s lo lk lx (cond x (Refused 13 0) (cond y (Refused 13 1) (cond z (Refused 13 2) (Fine h.steps h.positions h.faces h.corners))))
    go true y z p q r = tt
    go false true z p q r = tt
    go false false true p q r = tt
    go false false false p q r =
        record { known = k; offsets = ltb-false lo (h.faces + 1) p; corners = ltb-false lk h.corners q; coords = ltb-false lx (3 * h.positions) r }

-- what a file of so many counts holds is as long as they say
pub filed-is : (s : List ℕ) (n v f c : ℕ) → Known s n v f c → Fine n v f c ≡ filed_of (holds (contents s n v f))
unfolding contents
filed-is s n v f c k =
    let w : length (run (float_at s) 4 (positions_at n + 4) (3 * v)) / 3 ≡ v = omega (arith, length_run (float_at s) 4 (positions_at n + 4) (3 * v)) in
    sym (rw (length_run (step_at s) 16 4 n, w, length-faces s (faces_at n v + 4) f, ← k.corners) refl)

lent_is : (s : List ℕ) (lo lk lx : ℕ) (q : Filed) → KnownAs s q → lent (reading_as s q) lo lk lx ≡ reading_as s (fitted_of q lo lk lx)
unfolding contents
lent_is s lo lk lx (Err r) k = refl
lent_is s lo lk lx (Ok h) k =
    let w : length (offsets_of (faces_from s (faces_at h.steps h.positions + 4) h.faces)) ≡ h.faces + 1 = length-offsets (faces_from s (faces_at h.steps h.positions + 4) h.faces) ∙ ap (λ (m : ℕ). m + 1) (length-faces s (faces_at h.steps h.positions + 4) h.faces) in
    rw (w, length_run (float_at s) 4 (positions_at h.steps + 4) (3 * h.positions), ← k.corners) (go (ltb lo (h.faces + 1)) (ltb lk h.corners) (ltb lx (3 * h.positions)))
  where
    go : (x y z : Bool) → cond x (refused 13 0) (cond y (refused 13 1) (cond z (refused 13 2) (holds (contents s h.steps h.positions h.faces)))) ≡ reading_as s (cond x (Refused 13 0) (cond y (Refused 13 1) (cond z (Refused 13 2) (Fine h.steps h.positions h.faces h.corners))))
    go true y z = refl
    go false true z = refl
    go false false true = refl
    go false false false = refl

pub reading-is : (s : List ℕ) (lo lk lx : ℕ) (q r : Filed) → q ≡ checked s → r ≡ fitted_of q lo lk lx → lent (reading s) lo lk lx ≡ reading_as s r
unfolding reading
reading-is s lo lk lx q r e w = lent_is s lo lk lx (checked s) (known s) ∙ ap (reading_as s) (ap (λ (y : Filed). fitted_of y lo lk lx) (sym e) ∙ sym w)
