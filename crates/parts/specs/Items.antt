-- What one item comes to, from the parts that the code has at hand. Assumes nothing.
use Rattle.std.specs.Prelude.{◌≡◌, refl, Bool, true, false, ◌&&◌, cond, List, ℕ, zero, suc, ◌+◌, ◌%◌, ◌/◌, ◌<◌, ◌≤◌, leb, eqb}
use Rattle.std.proofs.Common.{sym, ◌∙◌, ap, ap₂, arith, le-leb, ne_eqb}
use Rattle.std.proofs.lemmas.Bool.{lt-leb}
use Rattle.operators.specs.Number.{Number}
use Rattle.steps.specs.declared.Step.{Step}
use Rattle.steps.specs.declared.Step.TheVariants.{Triangulate}
use Rattle.words.specs.Words.{word_at, whole_at}
use Rattle.parts.specs.Part.{Part}
use Rattle.parts.specs.Part.{Has, Stops}
use Rattle.parts.specs.StepWords.{one_of, takes_ratio, takes_height, ratio_flag, height_flag, good_number, good_step, number_of, step_of, step_with}
use Rattle.parts.specs.Parts.{count_at, step_says, whole_says}

-- ---- the words of a step

pub good-all :
    (code flags ratio height : ℕ) (tr th g r : Bool) → 1 ≤ code → code ≤ 11 → flags ≤ 3 → tr ≡ takes_ratio code → g ≡ good_number tr (ratio_flag flags) ratio →
    g ≡ true → th ≡ takes_height code → r ≡ good_number th (height_flag flags) height → r ≡ good_step code flags ratio height
unfolding good_step
good-all code flags ratio height tr th g r a b d e p q h w =
    let y : good_number (takes_ratio code) (ratio_flag flags) ratio ≡ true = ap (λ (t : Bool). good_number t (ratio_flag flags) ratio) (sym e) ∙ sym p ∙ q in
    let z : r ≡ good_number (takes_height code) (height_flag flags) height = w ∙ ap (λ (t : Bool). good_number t (height_flag flags) height) h in
    rw (le-leb 1 code a, le-leb code 11 b, le-leb flags 3 d, y) z

pub good-not :
    (code flags ratio height : ℕ) (tr g : Bool) → 1 ≤ code → code ≤ 11 → flags ≤ 3 → tr ≡ takes_ratio code → g ≡ good_number tr (ratio_flag flags) ratio →
    g ≡ false → false ≡ good_step code flags ratio height
unfolding good_step
good-not code flags ratio height tr g a b d e p q =
    let y : good_number (takes_ratio code) (ratio_flag flags) ratio ≡ false = ap (λ (t : Bool). good_number t (ratio_flag flags) ratio) (sym e) ∙ sym p ∙ q in
    rw (le-leb 1 code a, le-leb code 11 b, le-leb flags 3 d, y) refl

-- ---- a count

pub count-is : (s : List ℕ) (at most n : ℕ) (w : Bool) → w ≡ whole_at s at 4 → w ≡ true → n ≡ word_at s at → n ≤ most → Has n ≡ count_at s at most
unfolding count_at
count-is s at most n w e p q h =
    let l : leb (word_at s at) most ≡ true = le-leb (word_at s at) most (omega arith) in
    rw (sym e ∙ p, l) (ap Has q)

pub count-over : (s : List ℕ) (at most n : ℕ) (w : Bool) → w ≡ whole_at s at 4 → w ≡ true → n ≡ word_at s at → most < n → Stops 16 at ≡ count_at s at most
unfolding count_at
count-over s at most n w e p q h =
    let l : leb (word_at s at) most ≡ false = lt-leb (word_at s at) most (omega arith) in
    rw (sym e ∙ p, l) refl

pub count_cut : (s : List ℕ) (at most : ℕ) (w : Bool) → w ≡ whole_at s at 4 → w ≡ false → Stops 15 at ≡ count_at s at most
unfolding count_at
count_cut s at most w e p = rw (sym e ∙ p) refl

-- ---- a step

pub step-good :
    (s : List ℕ) (at a b c d : ℕ) (w g : Bool) → w ≡ whole_at s at 16 → w ≡ true → a ≡ word_at s at → b ≡ word_at s (at + 4) → c ≡ word_at s (at + 8) →
    d ≡ word_at s (at + 12) → g ≡ good_step a b c d → g ≡ true → Has 0 ≡ step_says s at
unfolding step_says
step-good s at a b c d w g e p ea eb ec ed q h = rw (sym e ∙ p, ← ea, ← eb, ← ec, ← ed, sym q ∙ h) refl

pub step-bad :
    (s : List ℕ) (at a b c d : ℕ) (w g : Bool) → w ≡ whole_at s at 16 → w ≡ true → a ≡ word_at s at → b ≡ word_at s (at + 4) → c ≡ word_at s (at + 8) →
    d ≡ word_at s (at + 12) → g ≡ good_step a b c d → g ≡ false → Stops 17 at ≡ step_says s at
unfolding step_says
step-bad s at a b c d w g e p ea eb ec ed q h = rw (sym e ∙ p, ← ea, ← eb, ← ec, ← ed, sym q ∙ h) refl

pub step_cut : (s : List ℕ) (at : ℕ) (w : Bool) → w ≡ whole_at s at 16 → w ≡ false → Stops 15 at ≡ step_says s at
unfolding step_says
step_cut s at w e p = rw (sym e ∙ p) refl

-- ---- an item that is only whole or not

pub item-whole : (s : List ℕ) (size at : ℕ) (w : Bool) → w ≡ whole_at s at size → w ≡ true → Has 0 ≡ whole_says s size at
unfolding whole_says
item-whole s size at w e p = rw (sym e ∙ p) refl

pub item-cut : (s : List ℕ) (size at : ℕ) (w : Bool) → w ≡ whole_at s at size → w ≡ false → Stops 15 at ≡ whole_says s size at
unfolding whole_says
item-cut s size at w e p = rw (sym e ∙ p) refl

-- ---- a code that stands in no list

pub no-ratio :
    (c : ℕ) → (c ≡ 1 → ⊥) → (c ≡ 2 → ⊥) → (c ≡ 4 → ⊥) → (c ≡ 6 → ⊥) → (c ≡ 10 → ⊥) → false ≡ takes_ratio c
unfolding takes_ratio one_of
no-ratio c a b d e f = rw (ne_eqb c 1 a, ne_eqb c 2 b, ne_eqb c 4 d, ne_eqb c 6 e, ne_eqb c 10 f) refl

pub no-height : (c : ℕ) → (c ≡ 4 → ⊥) → (c ≡ 5 → ⊥) → (c ≡ 7 → ⊥) → (c ≡ 10 → ⊥) → false ≡ takes_height c
unfolding takes_height one_of
no-height c a b d e = rw (ne_eqb c 4 a, ne_eqb c 5 b, ne_eqb c 7 d, ne_eqb c 10 e) refl

-- ---- the step that four words stand for

pub last_code :
    (c : ℕ) (t h : Number) → (c ≡ 1 → ⊥) → (c ≡ 2 → ⊥) → (c ≡ 3 → ⊥) → (c ≡ 4 → ⊥) → (c ≡ 5 → ⊥) → (c ≡ 6 → ⊥) → (c ≡ 7 → ⊥) → (c ≡ 8 → ⊥) →
    (c ≡ 9 → ⊥) → (c ≡ 10 → ⊥) → Triangulate ≡ step_of c t h
unfolding step_of
last_code zero t h a b d e f g i j k l = refl
last_code (suc zero) t h a b d e f g i j k l = absurd (a refl)
last_code (suc (suc zero)) t h a b d e f g i j k l = absurd (b refl)
last_code (suc (suc (suc zero))) t h a b d e f g i j k l = absurd (d refl)
last_code (suc (suc (suc (suc zero)))) t h a b d e f g i j k l = absurd (e refl)
last_code (suc (suc (suc (suc (suc zero))))) t h a b d e f g i j k l = absurd (f refl)
last_code (suc (suc (suc (suc (suc (suc zero)))))) t h a b d e f g i j k l = absurd (g refl)
last_code (suc (suc (suc (suc (suc (suc (suc zero))))))) t h a b d e f g i j k l = absurd (i refl)
last_code (suc (suc (suc (suc (suc (suc (suc (suc zero)))))))) t h a b d e f g i j k l = absurd (j refl)
last_code (suc (suc (suc (suc (suc (suc (suc (suc (suc zero))))))))) t h a b d e f g i j k l = absurd (k refl)
last_code (suc (suc (suc (suc (suc (suc (suc (suc (suc (suc zero)))))))))) t h a b d e f g i j k l = absurd (l refl)
last_code (suc (suc (suc (suc (suc (suc (suc (suc (suc (suc (suc n))))))))))) t h a b d e f g i j k l = refl

pub step_from :
    (code flags ratio height : ℕ) (t h : Number) (r : Step) → t ≡ number_of (ratio_flag flags) ratio → h ≡ number_of (height_flag flags) height →
    r ≡ step_of code t h → r ≡ step_with code flags ratio height
unfolding step_with
step_from code flags ratio height t h r et eh er = er ∙ ap₂ (step_of code) et eh
