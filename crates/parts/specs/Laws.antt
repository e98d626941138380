-- Laws of the parts: what the loops over them go by, and what a part that passes leaves known. Assumes nothing.
use Rattle.std.specs.Prelude.{Ok, Err}
use Rattle.std.specs.Prelude.{◌≡◌, refl, Bool, true, false, cond, List, ℕ, zero, suc, ◌+◌, ◌-◌, ◌*◌, ◌<◌, ◌≤◌, leb}
use Rattle.std.proofs.Common.{sym, ◌∙◌, ap, true≢false, arith, leb-true}
use Rattle.std.proofs.Math.Nat.{sub-zero}
use Rattle.words.specs.Words.{word_at, whole_at}
use Rattle.parts.specs.Part.{Part}
use Rattle.parts.specs.Part.{Has, Stops}
use Rattle.parts.specs.Parts.{and_then, count_at, whole_says, items, section, faces}

abbrev is_has : Part → Bool
is_has (Ok n) = true
is_has (Err r) = false

abbrev has_of : Part → ℕ
has_of (Ok n) = n
has_of (Err r) = 0

pub has-is : {m n : ℕ} → Has m ≡ Has n → m ≡ n
has-is e = ap has_of e

pub apart : {a b n : ℕ} → Stops a b ≡ Has n → ⊥
apart e = true≢false (sym (ap is_has e))

-- ---- a loop over items: what is left to test comes to what all come to

one_less : (n i : ℕ) → i < n → n - i ≡ suc (n - (i + 1))
one_less n i h = omega arith

items-next : (say : ℕ → Part) (size at n i : ℕ) → i < n → items say size at (n - i) ≡ and_then (say at) (λ _. items say size (at + size) (n - (i + 1)))
unfolding items
items-next say size at n i h = ap (items say size at) (one_less n i h)

pub items-stop :
    (say : ℕ → Part) (size at n i a b : ℕ) (r t : Part) → items say size at (n - i) ≡ t → i < n → r ≡ say at → r ≡ Stops a b → r ≡ t
items-stop say size at n i a b r t e h p q =
    q ∙ ap (λ (x : Part). and_then x (λ _. items say size (at + size) (n - (i + 1)))) (sym q ∙ p) ∙ sym (items-next say size at n i h) ∙ e

pub items-on :
    (say : ℕ → Part) (size at n i x : ℕ) (r t : Part) → items say size at (n - i) ≡ t → i < n → r ≡ say at → r ≡ Has x →
    items say size (at + size) (n - (i + 1)) ≡ t
items-on say size at n i x r t e h p q =
    ap (λ (y : Part). and_then y (λ _. items say size (at + size) (n - (i + 1)))) (sym q ∙ p) ∙ sym (items-next say size at n i h) ∙ e

pub items-end : (say : ℕ → Part) (size at n i : ℕ) (t : Part) → items say size at (n - i) ≡ t → n ≤ i → Has 0 ≡ t
unfolding items
items-end say size at n i t e h = let z : n - i ≡ 0 = omega arith in ap (items say size at) (sym z) ∙ e

pub items-start : (say : ℕ → Part) (size at n : ℕ) → items say size at (n - 0) ≡ items say size at n
items-start say size at n = ap (items say size at) (sub-zero n)

-- the same of faces
pub faces-start : (s : List ℕ) (at sum n : ℕ) → faces s at sum (n - 0) ≡ faces s at sum n
faces-start s at sum n = ap (faces s at sum) (sub-zero n)

faces-next :
    (s : List ℕ) (at sum n i : ℕ) → i < n →
    faces s at sum (n - i) ≡ and_then (section s at (1200 - sum) 4 (whole_says s 4)) (λ a. faces s (at + 4 + 4 * a) (sum + a) (n - (i + 1)))
unfolding faces
faces-next s at sum n i h = ap (faces s at sum) (one_less n i h)

pub faces-stop :
    (s : List ℕ) (at sum n i a b : ℕ) (r t : Part) → faces s at sum (n - i) ≡ t → i < n → r ≡ section s at (1200 - sum) 4 (whole_says s 4) →
    r ≡ Stops a b → r ≡ t
faces-stop s at sum n i a b r t e h p q =
    q ∙ ap (λ (x : Part). and_then x (λ a. faces s (at + 4 + 4 * a) (sum + a) (n - (i + 1)))) (sym q ∙ p) ∙ sym (faces-next s at sum n i h) ∙ e

pub faces-on :
    (s : List ℕ) (at sum n i a w : ℕ) (r t : Part) → faces s at sum (n - i) ≡ t → i < n → r ≡ section s at (1200 - sum) 4 (whole_says s 4) →
    r ≡ Has a → w ≡ a → faces s (at + (4 + 4 * w)) (sum + a) (n - (i + 1)) ≡ t
faces-on s at sum n i a w r t e h p q d =
    let z : at + (4 + 4 * w) ≡ at + 4 + 4 * a = omega arith in
    ap (λ (x : ℕ). faces s x (sum + a) (n - (i + 1))) z
    ∙ ap (λ (x : Part). and_then x (λ a. faces s (at + 4 + 4 * a) (sum + a) (n - (i + 1)))) (sym q ∙ p)
    ∙ sym (faces-next s at sum n i h) ∙ e

pub faces-end : (s : List ℕ) (at sum n i : ℕ) (t : Part) → faces s at sum (n - i) ≡ t → n ≤ i → Has sum ≡ t
unfolding faces
faces-end s at sum n i t e h = let z : n - i ≡ 0 = omega arith in ap (faces s at sum) (sym z) ∙ e

-- ---- one part after another, as the code has them

pub then-stop : (p r : Part) (k : ℕ → Part) {a b : ℕ} → r ≡ p → r ≡ Stops a b → r ≡ and_then p k
then-stop p r k e q = q ∙ ap (λ (x : Part). and_then x k) (sym q ∙ e)

pub then-on : (p r q : Part) (k : ℕ → Part) {n : ℕ} → r ≡ p → r ≡ Has n → q ≡ k n → q ≡ and_then p k
then-on p r q k e h w = w ∙ ap (λ (x : Part). and_then x k) (sym h ∙ e)

-- a section: its count stops it, one of its items does, or it is whole
pub section-cut : (s : List ℕ) (at most size : ℕ) (say : ℕ → Part) (r : Part) {a b : ℕ} → r ≡ count_at s at most → r ≡ Stops a b → r ≡ section s at most size say
unfolding section
section-cut s at most size say r e q = then-stop (count_at s at most) r _ e q

pub section-stop :
    (s : List ℕ) (at most size m : ℕ) (say : ℕ → Part) (r q : Part) {n a b : ℕ} → r ≡ count_at s at most → r ≡ Has n → m ≡ n → q ≡ items say size (at + 4) m →
    q ≡ Stops a b → q ≡ section s at most size say
unfolding section
section-stop s at most size m say r q {n} e h w z d =
    then-on (count_at s at most) r q _ e h (then-stop (items say size (at + 4) n) q _ (z ∙ ap (items say size (at + 4)) w) d)

pub section-done :
    (s : List ℕ) (at most size m : ℕ) (say : ℕ → Part) (r q : Part) {n x : ℕ} → r ≡ count_at s at most → r ≡ Has n → m ≡ n → q ≡ items say size (at + 4) m →
    q ≡ Has x → Has n ≡ section s at most size say
unfolding section
section-done s at most size m say r q {n} e h w z d =
    then-on (count_at s at most) r (Has n) _ e h (then-on (items say size (at + 4) n) q (Has n) _ (z ∙ ap (items say size (at + 4)) w) d refl)

-- ---- what a part that passes leaves known

pub count-has : (s : List ℕ) (at most n : ℕ) → count_at s at most ≡ Has n → (n ≡ word_at s at) × (n ≤ most)
unfolding count_at
count-has s at most n e = go (whole_at s at 4) (leb (word_at s at) most) refl e
  where
    go : (b d : Bool) → leb (word_at s at) most ≡ d → cond b (cond d (Has (word_at s at)) (Stops 16 at)) (Stops 15 at) ≡ Has n → (n ≡ word_at s at) × (n ≤ most)
    go true true h e = let w = leb-true (word_at s at) most h in let q = has-is e in (sym q, omega arith)
    go true false h e = absurd (apart e)
    go false d h e = absurd (apart e)

pub section-count : (s : List ℕ) (at most size n : ℕ) (say : ℕ → Part) → section s at most size say ≡ Has n → count_at s at most ≡ Has n
unfolding section
section-count s at most size n say e = go (count_at s at most) (items say size (at + 4)) e
  where
    inner : (m : ℕ) (x : Part) → and_then x (λ _. Has m) ≡ Has n → Has m ≡ Has n
    inner m (Ok y) e = e
    inner m (Err r) e = absurd (apart e)

    go : (p : Part) (q : ℕ → Part) → and_then p (λ m. and_then (q m) (λ _. Has m)) ≡ Has n → p ≡ Has n
    go (Ok m) q e = inner m (q m) e
    go (Err r) q e = absurd (apart e)

pub section-has : (s : List ℕ) (at most size n : ℕ) (say : ℕ → Part) → section s at most size say ≡ Has n → (n ≡ word_at s at) × (n ≤ most)
section-has s at most size n say e = count-has s at most n (section-count s at most size n say e)
