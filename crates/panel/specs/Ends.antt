-- A step, the end of a file, and number 13, from the parts that the code has at hand. Assumes nothing.
use Rattle.std.specs.Prelude.{◌≡◌, refl, true, false, List, ℕ, ◌+◌, ◌*◌, ◌/◌, ◌<◌, ◌≤◌, length, ltb, eqb}
use Rattle.std.proofs.Common.{sym, ◌∙◌, ap, arith, eq-eqb, ne_eqb, lt-ltb, le-ltb}
use Rattle.steps.specs.declared.Step.{Step}
use Rattle.words.specs.Words.{word_at}
use Rattle.parts.specs.StepWords.{step_with}
use Rattle.panel.specs.Filed.{Filed}
use Rattle.panel.specs.Filed.{Fine, Refused}
use Rattle.panel.specs.Format.{end_at, ending, step_at}
use Rattle.panel.specs.Laws.{fitted_of}

-- ---- a step

pub step_is :
    (s : List ℕ) (at a b c d : ℕ) (r : Step) → a ≡ word_at s at → b ≡ word_at s (at + 4) → c ≡ word_at s (at + 8) → d ≡ word_at s (at + 12) →
    r ≡ step_with a b c d → r ≡ step_at s at
unfolding step_at
step_is s at a b c d r ea eb ec ed er = rw (← ea, ← eb, ← ec, ← ed) er

-- ---- the end of the file

pub end-met : (s : List ℕ) (n v f c e : ℕ) → e ≡ end_at n v f c → length s ≡ e → Fine n v f c ≡ ending s n v f c
unfolding ending
end-met s n v f c e q h = rw (eq-eqb (length s) (end_at n v f c) (h ∙ q)) refl

pub end-missed : (s : List ℕ) (n v f c e : ℕ) → e ≡ end_at n v f c → (length s ≡ e → ⊥) → Refused 18 e ≡ ending s n v f c
unfolding ending
end-missed s n v f c e q h = rw (ne_eqb (length s) (end_at n v f c) (λ w. h (w ∙ sym q))) (ap (λ (x : ℕ). Refused 18 x) q)

-- ---- number 13

pub fit-offsets : (q : Filed) (lo lk lx w : ℕ) {n v f c : ℕ} → q ≡ Fine n v f c → w ≡ f → lo ≤ w → Refused 13 0 ≡ fitted_of q lo lk lx
fit-offsets q lo lk lx w {n} {v} {f} {c} e p h =
    let a : ltb lo (f + 1) ≡ true = lt-ltb lo (f + 1) (omega arith) in
    rw (e, a) refl

pub fit-corners :
    (q : Filed) (lo lk lx w u : ℕ) {n v f c : ℕ} → q ≡ Fine n v f c → w ≡ f → w < lo → u ≡ c → lk < u → Refused 13 1 ≡ fitted_of q lo lk lx
fit-corners q lo lk lx w u {n} {v} {f} {c} e p h q' k =
    let a : ltb lo (f + 1) ≡ false = le-ltb lo (f + 1) (omega arith) in
    let b : ltb lk c ≡ true = lt-ltb lk c (omega arith) in
    rw (e, a, b) refl

pub fit-coords :
    (q : Filed) (lo lk lx w u z : ℕ) {n v f c : ℕ} → q ≡ Fine n v f c → w ≡ f → w < lo → u ≡ c → u ≤ lk → z ≡ v → lx / 3 < z →
    Refused 13 2 ≡ fitted_of q lo lk lx
fit-coords q lo lk lx w u z {n} {v} {f} {c} e p h q' k r l =
    let a : ltb lo (f + 1) ≡ false = le-ltb lo (f + 1) (omega arith) in
    let b : ltb lk c ≡ false = le-ltb lk c (omega arith) in
    let d : ltb lx (3 * v) ≡ true = lt-ltb lx (3 * v) (omega arith) in
    rw (e, a, b, d) refl

pub fit_all :
    (q : Filed) (lo lk lx w u z : ℕ) {n v f c : ℕ} → q ≡ Fine n v f c → w ≡ f → w < lo → u ≡ c → u ≤ lk → z ≡ v → z ≤ lx / 3 →
    Fine n v f c ≡ fitted_of q lo lk lx
fit_all q lo lk lx w u z {n} {v} {f} {c} e p h q' k r l =
    let a : ltb lo (f + 1) ≡ false = le-ltb lo (f + 1) (omega arith) in
    let b : ltb lk c ≡ false = le-ltb lk c (omega arith) in
    let d : ltb lx (3 * v) ≡ false = le-ltb lx (3 * v) (omega arith) in
    rw (e, a, b, d) refl
