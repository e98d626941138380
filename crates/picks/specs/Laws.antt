-- Laws of a list that is asked for a number and of picked faces that are counted, as the code does it. Assumes nothing.
use Rattle.std.specs.Prelude.{◌≡◌, refl, Bool, true, false, cond, ◌||◌, ◌&&◌, not, List, [], ◌∷◌, ◌++◌, ℕ, zero, suc, ◌+◌, ltb, eqb, length, Float}
use Rattle.std.proofs.Common.{sym, ◌∙◌, ap, ap₂, arith, map-id, add-one, length-append}
use Rattle.std.proofs.lemmas.Bool.Decides.{nat_tests}
use Rattle.std.specs.List.{list_any, filter, range_with_len}
use Rattle.std.proofs.lemmas.List.FromFn.{filter_of_map_range_with_len_more}
use Rattle.slices.specs.First.{first, any, is_at, count}
use Rattle.faces.specs.Regular.{regular_of}
use Rattle.mesh.specs.Mesh.{arity, run}
use Rattle.picks.specs.Picks.{picked, allows}
use Rattle.picks.specs.declared.Mask.{Mask}

-- a list has a number just where the search of `First` finds it
pub any_list : (l : List ℕ) (n : ℕ) → list_any (λ y. eqb y n) l ≡ any (is_at l n) (length l)
unfolding first
any_list [] n = refl
any_list (y ∷ l) n = go (eqb y n) (any_list l n)
  where
    go : (b : Bool) → list_any (λ z. eqb z n) l ≡ any (is_at l n) (length l) → (b || list_any (λ z. eqb z n) l) ≡ ltb (cond b zero (suc (first (is_at l n) (length l)))) (suc (length l))
    go true e = grind (arith, nat_tests)
    go false e = grind (arith, nat_tests)

-- a test that is asked only where it is given
given_or : (g c : Bool) → cond g c true ≡ (not g || c)
given_or true c = refl
given_or false c = refl

allows_list : (g : Bool) (l : List ℕ) (n : ℕ) → allows g l n ≡ (not g || list_any (λ y. eqb y n) l)
unfolding allows
allows_list g l n = rw (any_list l n) (given_or g (any (is_at l n) (length l)))

-- the masks as the code asks them, of a face whose run of corners is r
pub picked_as : (m : Mask) (a b o k : List ℕ) (x : List Float) (f : ℕ) (r : List ℕ) → r ≡ run o k f → length r ≡ arity o f
    → picked m a b o k x f ≡ ((not m.arities || list_any (λ y. eqb y (length r)) a) && ((not m.numbers || list_any (λ y. eqb y f) b) && (not m.regular || regular_of x r)))
unfolding picked
picked_as m a b o k x f r e l = rw (← e, ← l) (simp (allows_list, given_or))

-- the numbers below n that pass, in a row, are as many as pass
pub count_range : (p : ℕ → Bool) (n : ℕ) → length (filter p (range_with_len 0 n)) ≡ count p n
unfolding count
count_range p zero = refl
count_range p (suc n) =
    let e : filter p (range_with_len 0 (n + 1)) ≡ filter p (range_with_len 0 n) ++ cond (p n) (n ∷ []) [] = simp map-id at (filter_of_map_range_with_len_more p (λ x. x) 0 n n (omega arith)) in
    ap (λ k. length (filter p (range_with_len 0 k))) (sym (add-one n)) ∙ ap length e ∙ length-append (filter p (range_with_len 0 n)) (cond (p n) (n ∷ []) []) ∙ ap₂ (λ a b. a + b) (count_range p n) (one (p n))
  where
    one : (b : Bool) → length (cond b (n ∷ []) []) ≡ cond b 1 0
    one true = refl
    one false = refl
