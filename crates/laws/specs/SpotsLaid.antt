-- Laws of the first coordinate that is not finite in what a section has, that no proof of its crate calls. Assumes nothing.
use Rattle.std.specs.Prelude.{◌≡◌, refl, true, false, not, List, [], ◌∷◌, ◌++◌, ℕ, zero, suc, ◌+◌, ◌-◌, ◌<◌, ◌≤◌, length, get_or, Float}
use Rattle.std.proofs.Common.{sym, ◌∙◌, ap, subst, ⊎_elim, le_of_eq, not-suc-le-zero, le_of_suc-le-suc, arith, length-append, get_or-append-add}
use Rattle.std.specs.Float.Ieee.Scale.{finite}
use Rattle.std.specs.Float.{nan}
use Rattle.slices.specs.First.{first, IsFirst, first-is, nowhere, found, none, lt-or-le}
use Rattle.slices.specs.Lists.{each, each_more, each-split}
use Rattle.faces.specs.Face.{coords_of}
use Rattle.point.specs.declared.Point.{Point}
use Rattle.point.specs.Finite.{not_finite, first_bad}

-- ---- the first coordinate that is not finite

-- none is
abbrev pub Clean : List Float → Type 0
Clean l = length l ≤ first_bad l

pub clean-none : Clean []
clean-none = omega arith

get_d-append-lt : (a b : List Float) (i : ℕ) (d : Float) → i < length a → get_or (a ++ b) i d ≡ get_or a i d
get_d-append-lt [] b i d h = absurd (not-suc-le-zero h)
get_d-append-lt (x ∷ a) b zero d h = refl
get_d-append-lt (x ∷ a) b (suc i) d h = get_d-append-lt a b i d (le_of_suc-le-suc h)

left_at : (a b : List Float) (i : ℕ) → i < length a → not_finite (a ++ b) i ≡ not_finite a i
left_at a b i h = ap (λ (y : Float). not (finite y)) (get_d-append-lt a b i nan h)

right-at : (a b : List Float) (i : ℕ) → not_finite (a ++ b) (length a + i) ≡ not_finite b i
right-at a b i = ap (λ (y : Float). not (finite y)) (get_or-append-add a b i nan)

-- nothing below i is bad in a ++ b, where a is clean and nothing below i - length a is bad in b
below_both : (a b : List Float) (j : ℕ) → Clean a → ((i : ℕ) → i < j → not_finite b i ≡ false) → (i : ℕ) → i < length a + j → not_finite (a ++ b) i ≡ false
below_both a b j h l i w =
    ⊎_elim
    (λ z. left_at a b i z ∙ nowhere (not_finite a) (length a) h i z)
    (λ z. let e : length a + (i - length a) ≡ i = omega arith in ap (not_finite (a ++ b)) (sym e) ∙ right-at a b (i - length a) ∙ l (i - length a) (omega arith))
    (lt-or-le i (length a))

pub clean-append : (a b : List Float) → Clean a → Clean b → Clean (a ++ b)
clean-append a b h l =
    le_of_eq (none (not_finite (a ++ b)) (length (a ++ b)) (λ i w. below_both a b (length b) h (nowhere (not_finite b) (length b) l) i (omega (arith, length-append a b))))

-- the first in a list whose front is clean
pub bad-after : (a b : List Float) (j : ℕ) → Clean a → j ≡ first_bad b → j < length b → length a + j ≡ first_bad (a ++ b)
bad-after a b j h e l =
    let q : IsFirst (not_finite b) (length b) j = subst (IsFirst (not_finite b) (length b)) (sym e) (first-is (not_finite b) (length b)) in
    found (not_finite (a ++ b)) (length (a ++ b)) (length a + j) (omega (arith, length-append a b)) (below_both a b j h q.below) (right-at a b j ∙ q.holds l)

-- the first in a list whose front has it
pub bad-front : (a b : List Float) (j : ℕ) → j ≡ first_bad a → j < length a → j ≡ first_bad (a ++ b)
bad-front a b j e l =
    let q : IsFirst (not_finite a) (length a) j = subst (IsFirst (not_finite a) (length a)) (sym e) (first-is (not_finite a) (length a)) in
    found (not_finite (a ++ b)) (length (a ++ b)) j (omega (arith, length-append a b))
    (λ i w. left_at a b i (omega arith) ∙ q.below i w)
    (left_at a b j l ∙ q.holds l)

-- a section, one step more
pub clean-more : (g : ℕ → List Float) (i j : ℕ) → Clean (each g i) → j ≡ first_bad (g i) → length (g i) ≤ j → Clean (each g (i + 1))
clean-more g i j h e l = rw each_more (clean-append (each g i) (g i) h (rw e at l))

pub bad-step : (g : ℕ → List Float) (i n j : ℕ) → i < n → Clean (each g i) → j ≡ first_bad (g i) → j < length (g i) → length (each g i) + j ≡ first_bad (each g n)
bad-step g i n j w h e l =
    let rest : List Float = each (λ m. g (i + 1 + m)) (n - (i + 1)) in
    bad-front (each g i ++ g i) rest (length (each g i) + j) (bad-after (each g i) (g i) j h e l) (omega (arith, length-append (each g i) (g i)))
    ∙ ap first_bad (sym (each-split g i n w))

-- nothing more to look at
pub clean-done : (l : List Float) → Clean l → length l ≡ first_bad l
clean-done l h = let w = (first-is (not_finite l) (length l)).within in omega arith

pub bad-le : (l : List Float) (j : ℕ) → j ≡ first_bad l → j ≤ length l
bad-le l j e = let w = (first-is (not_finite l) (length l)).within in omega arith

-- the first in two lists, of which the front is clean
pub bad-both : (a b : List Float) (j : ℕ) → Clean a → j ≡ first_bad b → length a + j ≡ first_bad (a ++ b)
bad-both a b j h e =
    ⊎_elim
    (λ l. bad-after a b j h e l)
    (λ l. let w : j ≤ length b = bad-le b j e in
    let z : length a + j ≡ length (a ++ b) = omega (arith, length-append a b) in
    z ∙ clean-done (a ++ b) (clean-append a b h (let q : length b ≤ first_bad b = omega arith in q)))
    (lt-or-le j (length b))

-- the coordinates of one point, by the tests of the code
pub bad-first : (p : Point) → not (finite p.x) ≡ true → 0 ≡ first_bad (coords_of p)
unfolding first
bad-first p e = rw e

pub bad-second : (p : Point) → not (finite p.x) ≡ false → not (finite p.y) ≡ true → 1 ≡ first_bad (coords_of p)
unfolding first
bad-second p a e = rw (a, e)

pub bad-third : (p : Point) → not (finite p.x) ≡ false → not (finite p.y) ≡ false → not (finite p.z) ≡ true → 2 ≡ first_bad (coords_of p)
unfolding first
bad-third p a b e = rw (a, b, e)

pub bad-nowhere : (p : Point) → not (finite p.x) ≡ false → not (finite p.y) ≡ false → not (finite p.z) ≡ false → 3 ≡ first_bad (coords_of p)
unfolding first
bad-nowhere p a b e = rw (a, b, e)
