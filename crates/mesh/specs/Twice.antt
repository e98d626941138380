-- A vertex that stands twice in a long run of corners, looked for by windows of vertex numbers: definitions and their laws.
-- Assumes nothing.
use Rattle.std.specs.Prelude.{ℕ, ◌+◌, ◌-◌, ◌≤◌, ◌<◌, ◌≡◌, refl, Bool, true, cond, ◌&&◌, ◌||◌, zero, suc, List, [], ◌∷◌, length, get_or, set, take, drop, replicate, ltb, leb, eqb}
use Rattle.std.specs.List.{list_any}
use Rattle.std.proofs.Common.{length-take-le, sym, ◌∙◌, ap, true≢false, ⊎_elim, arith, le_of_eq, not-suc-le-zero, length-set, length-take, length-drop, get_or-set_same, get_or-set_other, get_or-take, get_or-drop, ltb-true, ltb-false, lt-ltb, le-ltb, le-leb, leb-true, leb-false, eqb-true, eq-eqb, ne_eqb, below_more}
use Rattle.std.proofs.Math.Bool.{false}
use Rattle.std.proofs.lemmas.List.{length-replicate, get_or-replicate}
use Rattle.std.proofs.lemmas.Bool.{eqb-false}
use Rattle.slices.specs.First.{first, first_cong, any, is_at, first-is, none, nowhere, at-or-before, lt-or-le, Searched, onward, both}
use Rattle.mesh.specs.Tests.{seen, outside}

-- each number is below v
abbrev pub Inside : List ℕ → ℕ → Type 0
Inside l v = (c : ℕ) → c < length l → get_or l c 0 < v

-- x is one of the w numbers from low on
unfoldable pub in_window : ℕ → ℕ → ℕ → Bool
in_window low w x = leb low x && ltb (x - low) w

-- the number at i is one of them, and stands before it too
unfoldable pub again : ℕ → ℕ → List ℕ → ℕ → Bool
again low w l i = in_window low w (get_or l i 0) && seen l i

-- no mark is set
abbrev pub Unmarked : List Bool → Type 0
Unmarked marks = (d : ℕ) → d < length marks → get_or marks d false ≡ false

pub unmarked-new : (n : ℕ) → Unmarked (replicate n false)
unmarked-new n d h = get_or-replicate n d false false (rw (length-replicate n false) at h)

-- mark d is set where low + d is one of the first i numbers
abbrev pub Marked : ℕ → List ℕ → ℕ → List Bool → Type 0
Marked low l i marks = (d : ℕ) → d < length marks → get_or marks d false ≡ any (is_at l (low + d)) i

-- no number below low stands twice
abbrev pub Unseen : List ℕ → ℕ → Type 0
Unseen l low = (i : ℕ) → i < length l → get_or l i 0 < low → seen l i ≡ false

-- ---- one place more
any-yes : (p : ℕ → Bool) (i : ℕ) → p i ≡ true → any p (i + 1) ≡ true
any-yes p i e = lt-ltb (first p (i + 1)) (i + 1) (let w = at-or-before p (i + 1) i e in omega arith)

any-no : (p : ℕ → Bool) (i : ℕ) → p i ≡ false → any p (i + 1) ≡ any p i
any-no p i q = go (any p i) refl
  where
    go : (b : Bool) → any p i ≡ b → any p (i + 1) ≡ b
    go true e =
        let h : first p i < i = ltb-true _ _ e in
        let w : first p (i + 1) ≤ first p i = at-or-before p (i + 1) (first p i) ((first-is p i).holds h) in
        lt-ltb (first p (i + 1)) (i + 1) (omega (arith, h, w))
    go false e =
        le-ltb (first p (i + 1)) (i + 1) (le_of_eq (none p (i + 1) (below_more (λ k. p k ≡ false) i (nowhere p i (ltb-false _ _ e)) q)))

-- ---- a search along a list
any_item : (test : ℕ → Bool) (l : List ℕ) → list_any test l ≡ any (λ i. test (get_or l i 0)) (length l)
unfolding first
any_item test [] = refl
any_item test (x ∷ xs) = go (test x) (list_any test xs) (first (λ i. test (get_or xs i 0)) (length xs)) (length xs) (any_item test xs)
  where
    under : (b : Bool) (m n : ℕ) → b ≡ ltb m n → b ≡ ltb (suc m) (suc n)
    under true m n e = sym (lt-ltb (suc m) (suc n) (let h = ltb-true m n (sym e) in omega arith))
    under false m n e = sym (le-ltb (suc m) (suc n) (let h = ltb-false m n (sym e) in omega arith))

    go : (b r : Bool) (m n : ℕ) → r ≡ ltb m n → b || r ≡ ltb (cond b zero (suc m)) (suc n)
    go true r m n e = sym (lt-ltb zero (suc n) (omega arith))
    go false r m n e = under r m n e

any_cong : (p q : ℕ → Bool) (n : ℕ) → ((k : ℕ) → k < n → p k ≡ q k) → any p n ≡ any q n
any_cong p q n e = ap (λ (m : ℕ). ltb m n) (first_cong p q n e)

-- a number stands among those before it
pub seen_front : (l : List ℕ) (i : ℕ) → i ≤ length l → list_any (λ x. eqb x (get_or l i 0)) (take i l) ≡ seen l i
seen_front l i h =
    any_item (λ x. eqb x (get_or l i 0)) (take i l)
    ∙ ap (any (λ j. eqb (get_or (take i l) j 0) (get_or l i 0))) (length-take-le i l h)
    ∙ any_cong (λ j. eqb (get_or (take i l) j 0) (get_or l i 0)) (is_at l (get_or l i 0)) i (λ j a. ap (λ (x : ℕ). eqb x (get_or l i 0)) (get_or-take i l j 0 a))

-- ---- the window of a number
pub above-window : (low w x : ℕ) → low ≤ x → ltb (x - low) w ≡ in_window low w x
unfolding in_window
above-window low w x h = rw (le-leb low x h)

window-holds : (low w d : ℕ) → d < w → in_window low w (low + d) ≡ true
window-holds low w d h =
    let e : low + d - low ≡ d = omega arith in
    sym (above-window low w (low + d) (omega arith)) ∙ lt-ltb (low + d - low) w (omega arith)

pub window-from : (low w x : ℕ) → in_window low w x ≡ true → (low ≤ x) × (x - low < w)
unfolding in_window
window-from low w x e = let t = both (leb low x) (ltb (x - low) w) e in (leb-true _ _ t.0, ltb-true _ _ t.1)

-- ---- the marks, a corner more
-- a number of no mark
marked-out : (low : ℕ) (l : List ℕ) (i : ℕ) (marks : List Bool) → Marked low l i marks → in_window low (length marks) (get_or l i 0) ≡ false → Marked low l (i + 1) marks
marked-out low l i marks m o d h =
    m d h ∙ sym (any-no (is_at l (low + d)) i (ne_eqb (get_or l i 0) (low + d) (λ e.
    true≢false (sym (window-holds low (length marks) d h) ∙ ap (in_window low (length marks)) (sym e) ∙ o))))

-- a number whose mark is set
marked-in : (low : ℕ) (l : List ℕ) (i x : ℕ) (marks : List Bool) → Marked low l i marks → x ≡ get_or l i 0 → low ≤ x → x - low < length marks → Marked low l (i + 1) (set marks (x - low) true)
marked-in low l i x marks m q a b d h = go (eqb d (x - low)) refl
  where
    go : (t : Bool) → eqb d (x - low) ≡ t → get_or (set marks (x - low) true) d false ≡ any (is_at l (low + d)) (i + 1)
    go true e =
        let z : d ≡ x - low = eqb-true _ _ e in
        ap (λ (j : ℕ). get_or (set marks (x - low) true) j false) z
        ∙ get_or-set_same marks (x - low) true false b
        ∙ sym (any-yes (is_at l (low + d)) i (eq-eqb (get_or l i 0) (low + d) (omega (arith, z, q, a))))
    go false e =
        let h' : d < length marks = rw (length-set marks (x - low) true) at h in
        get_or-set_other marks (x - low) d true false (eqb-false _ _ e)
        ∙ m d h'
        ∙ sym (any-no (is_at l (low + d)) i (ne_eqb (get_or l i 0) (low + d) (λ z. eqb-false d (x - low) e (omega (arith, z, q)))))

-- its mark says whether it was seen
mark-says : (low : ℕ) (l : List ℕ) (i x : ℕ) (marks : List Bool) → Marked low l i marks → x ≡ get_or l i 0 → low ≤ x → x - low < length marks → get_or marks (x - low) false ≡ seen l i
mark-says low l i x marks m q a b =
    let z : low + (x - low) ≡ get_or l i 0 = omega (arith, q, a) in
    m (x - low) b ∙ ap (λ (v : ℕ). any (is_at l v) i) z

-- ---- the walk along a run: what holds before corner i
pub record Walked (low w : ℕ) (l : List ℕ) (i : ℕ) (marks : List Bool) : Type 0 where
  pub long : length marks ≡ w
  pub passed : Searched (again low w l) (length l) i
  pub marked : Marked low l i marks

module _ {low w : ℕ} {l : List ℕ} {i : ℕ} {marks : List Bool} (k : Walked low w l i marks) where
  pub walk-ended : length l ≤ i → false ≡ any (again low w l) (length l)
  walk-ended h = sym (le-ltb (first (again low w l) (length l)) (length l) (le_of_eq (none _ _ (λ j a. k.passed.below j (omega (arith, a, h))))))

  module _ (h : i < length l) (x : ℕ) (q : x ≡ get_or l i 0) where
    -- a corner of another window
    pub walk-over : false ≡ in_window low (length marks) x → Walked low w l (i + 1) marks
    unfolding again
    walk-over o =
        let e : in_window low (length marks) (get_or l i 0) ≡ false = rw (← q) (sym o) in
        record { long = k.long; passed = onward k.passed h (rw (← k.long, e)); marked = marked-out low l i marks k.marked e }

    module _ (o : true ≡ in_window low (length marks) x) where
      again-seen : again low w l i ≡ seen l i
      unfolding again
      again-seen = rw (← k.long, ← q, ← o)

      says : get_or marks (x - low) false ≡ again low w l i
      says = let t = window-from low (length marks) x (sym o) in mark-says low l i x marks k.marked q t.0 t.1 ∙ sym again-seen

      -- one that is marked
      pub walk-stopped : get_or marks (x - low) false ≡ true → true ≡ any (again low w l) (length l)
      walk-stopped e = sym (lt-ltb (first (again low w l) (length l)) (length l) (let z = at-or-before (again low w l) (length l) i (sym says ∙ e) in omega (arith, z, h)))

      -- one that is not
      pub walk-marks : get_or marks (x - low) false ≡ false → Walked low w l (i + 1) (set marks (x - low) true)
      walk-marks e =
          let t = window-from low (length marks) x (sym o) in
          record { long = length-set marks (x - low) true ∙ k.long; passed = onward k.passed h (sym says ∙ e); marked = marked-in low l i x marks k.marked q t.0 t.1 }

-- ---- window after window
pub unseen-none : (l : List ℕ) → Unseen l 0
unseen-none l i h z = absurd (not-suc-le-zero z)

pub unseen-more : (l : List ℕ) (low w : ℕ) → Unseen l low → any (again low w l) (length l) ≡ false → Unseen l (low + w)
unfolding again
unseen-more l low w u e i h z = ⊎_elim (λ a. u i h a) here (lt-or-le (get_or l i 0) low)
  where
    here : low ≤ get_or l i 0 → seen l i ≡ false
    here a =
        let x : ℕ = get_or l i 0 in
        let t : in_window low w x ≡ true = sym (above-window low w x a) ∙ lt-ltb (x - low) w (omega (arith, z, a)) in
        rw t at (nowhere (again low w l) (length l) (ltb-false _ _ e) i h)

pub unseen-all : (l : List ℕ) (low v : ℕ) → Unseen l low → Inside l v → v ≤ low → false ≡ any (seen l) (length l)
unseen-all l low v u s h = sym (le-ltb (first (seen l) (length l)) (length l) (le_of_eq (none (seen l) (length l) (λ i a. u i a (let w = s i a in omega (arith, w, h))))))

pub seen-there : (l : List ℕ) (low w : ℕ) → any (again low w l) (length l) ≡ true → true ≡ any (seen l) (length l)
unfolding again
seen-there l low w e =
    let p : ℕ → Bool = again low w l in
    let h : first p (length l) < length l = ltb-true _ _ e in
    let t = both (in_window low w (get_or l (first p (length l)) 0)) (seen l (first p (length l))) ((first-is p (length l)).holds h) in
    sym (lt-ltb (first (seen l) (length l)) (length l) (let z = at-or-before (seen l) (length l) (first p (length l)) t.1 in omega (arith, z, h)))

-- ---- the numbers of a run, and of all corners
pub inside-part : (k : List ℕ) (v a n : ℕ) → Inside k v → Inside (take n (drop a k)) v
inside-part k v a n s c h =
    let m : (c < n) × (a + c < length k) = let w = rw (length-take, length-drop) at h in omega (arith, w) in
    rw (get_or-take n (drop a k) c 0 m.0, get_or-drop a k c 0) (s (a + c) m.1)

-- after test 6
pub passed-outside : (k : List ℕ) (v : ℕ) → length k ≤ first (outside k v) (length k) → Inside k v
passed-outside k v h c l = leb-false _ _ (nowhere (outside k v) (length k) h c l)
