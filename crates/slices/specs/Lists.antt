-- Lists made number by number, and a lent list that is written over from its front: definitions and their laws.
-- Assumes nothing.
use Rattle.std.specs.Prelude.{◌≡◌, Bool, cond, take, get_or, set, Float}
use Rattle.std.proofs.Math.Path.{refl, ap}
use Rattle.std.proofs.Common.{sym, ◌∙◌, ap₂, add-zero, add-suc, suc-add, zero-add, length-take-le, take-suc}
use mathlib.Core.List.{List, [], ◌∷◌, ◌++◌, append_assoc, append-nil}
use Prim.Native.Nat.{ℕ, zero, suc, ◌+◌, ◌-◌, ◌*◌, ◌<◌, ◌≤◌}
use Rattle.std.proofs.Math.Numerals.{add-one}
use native.Mathlib.Omega.{arith}
use Rattle.std.proofs.Math.ListN.{length, drop, length-append}
use Rattle.std.proofs.lemmas.List.Edits.{sets, sets-eq}
use Rattle.std.specs.Float.Ieee.{of_bits}
use Rattle.std.specs.Float.{binary32}
use Rattle.slices.specs.First.{count}

-- +0, as the code's literal has it: the float of its pattern
abbrev pub zero_f : Float
zero_f = of_bits binary32 0

module _ {A : Type 0} where
  -- what g gives at 0, at 1, .. , at n - 1, one after the other
  unfoldable pub each : (ℕ → List A) → ℕ → List A
  each g zero = []
  each g (suc n) = each g n ++ g n

  -- a lent list with new written over its front
  abbrev pub over : List A → List A → List A
  over new old = new ++ drop (length new) old

  -- a run of stores goes on where an earlier one stopped
  pub sets-append : (l : List A) (i : ℕ) (xs ys : List A) → sets (sets l i xs) (i + length xs) ys ≡ sets l i (xs ++ ys)
  sets-append l i [] ys = rw add-zero
  sets-append l i (x ∷ xs) ys = rw (add-suc, ← suc-add) (sets-append (set l i x) (suc i) xs ys)

  -- one store more
  pub sets-push : (l : List A) (i : ℕ) (xs : List A) (a : A) → set (sets l i xs) (i + length xs) a ≡ sets l i (xs ++ (a ∷ []))
  sets-push l i xs a = sets-append l i xs (a ∷ [])

  -- a run of stores from the front writes over it
  pub sets_over : (l xs : List A) → length xs ≤ length l → sets l 0 xs ≡ over xs l
  sets_over l xs h = sets-eq xs l 0 (omega arith) ∙ simp zero-add

  pub each_more : (g : ℕ → List A) (n : ℕ) → each g (n + 1) ≡ each g n ++ g n
  unfolding each
  each_more g n = rw add-one refl

  pub each-add : (g : ℕ → List A) (i k : ℕ) → each g (i + k) ≡ each g i ++ each (λ j. g (i + j)) k
  unfolding each
  each-add g i zero = rw (add-zero, append-nil)
  each-add g i (suc k) = rw (add-suc, each-add g i k, append_assoc)

  -- what comes first is a front of what comes in all
  pub each-front : (g : ℕ → List A) (i n : ℕ) → i ≤ n → each g n ≡ each g i ++ each (λ j. g (i + j)) (n - i)
  each-front g i n h =
      let e : i + (n - i) ≡ n = omega arith in
      ap (each g) (sym e) ∙ each-add g i (n - i)

  -- what g gives at i, between what it gives before and after
  pub each-split : (g : ℕ → List A) (i n : ℕ) → i < n → each g n ≡ (each g i ++ g i) ++ each (λ j. g (i + 1 + j)) (n - (i + 1))
  each-split g i n h = each-front g (i + 1) n (omega arith) ∙ ap (λ (l : List A). l ++ each (λ j. g (i + 1 + j)) (n - (i + 1))) (each_more g i)

  -- the same number of elements at each
  pub length-each : (g : ℕ → List A) (m n : ℕ) → ((i : ℕ) → length (g i) ≡ m) → length (each g n) ≡ m * n
  unfolding each
  length-each g m zero h = omega arith
  length-each g m (suc n) h =
      let w : length (each g n) ≡ m * n = length-each g m n h in
      length-append (each g n) (g n) ∙ omega (arith, w, h n)

  -- elements only where a test holds
  pub length-where : (g : ℕ → List A) (p : ℕ → Bool) (m n : ℕ) → ((i : ℕ) → length (g i) ≡ m * cond (p i) 1 0) → length (each g n) ≡ m * count p n
  unfolding each count
  length-where g p m zero h = omega arith
  length-where g p m (suc n) h =
      let w : length (each g n) ≡ m * count p n = length-where g p m n h in
      length-append (each g n) (g n) ∙ omega (arith, w, h n)

  -- a copy, one element more
  pub copy_more : (l old : List A) (d : A) (i : ℕ) (o : List A) (x : A) → i < length l → o ≡ sets old 0 (take i l) → x ≡ get_or l i d → set o i x ≡ sets old 0 (take (i + 1) l)
  copy_more l old d i o x h e q =
      let n : length (take i l) ≡ i = length-take-le i l (omega arith) in
      let m : 0 + length (take i l) ≡ i = omega arith in
      ap₂ (λ (t : List A) (j : ℕ). set t j x) e (sym m)
      ∙ sets-push old 0 (take i l) x
      ∙ ap (sets old 0) (ap (λ (y : A). take i l ++ (y ∷ [])) q ∙ sym (take-suc l i d h) ∙ ap (λ (j : ℕ). take j l) (sym (add-one i)))
