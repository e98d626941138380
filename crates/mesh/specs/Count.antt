-- Counting the places where a test holds: different places, places counted apart, and one test carried into another.
-- Assumes nothing.
use Rattle.std.specs.Prelude.{ℕ, zero, suc, ◌+◌, ◌-◌, ◌≤◌, ◌<◌, ◌≡◌, refl, Bool, true, false, cond, not, ◌&&◌, ◌⊎◌, eqb}
use Rattle.std.proofs.Common.{zero-le, sym, ◌∙◌, ap, ⊎_elim, arith, eq-or-lt_of_le, le_of_suc-le-suc, le_of_eq, add-zero, zero-add, add-suc, add_assoc, suc-add, not-suc-le-zero, le_refl, le_antisymm, lt_of_not-le, lt_irrefl, eq-eqb, ne_eqb, lt-ltb, le-ltb}
use Rattle.std.proofs.Math.Decide.{le_ind}
use Rattle.slices.specs.First.{first, any, count, first-is, nowhere, no-count}

pub count-cong : (p q : ℕ → Bool) (n : ℕ) → ((i : ℕ) → i < n → p i ≡ q i) → count p n ≡ count q n
unfolding count
count-cong p q zero h = refl
count-cong p q (suc n) h = rw (h n (omega arith), count-cong p q n (λ i l. h i (omega arith)))

-- the test, and not at y
abbrev without : (ℕ → Bool) → ℕ → ℕ → Bool
without p y x = p x && not (eqb x y)

and-true : (b : Bool) → b && true ≡ b
and-true true = refl
and-true false = refl

and-false : (b : Bool) → b && false ≡ false
and-false true = refl
and-false false = refl

kept : (p : ℕ → Bool) (y x : ℕ) → (x ≡ y → ⊥) → without p y x ≡ p x
kept p y x h = rw (ne_eqb x y h) (and-true (p x))

gone : (p : ℕ → Bool) (y : ℕ) → without p y y ≡ false
gone p y = rw (eq-eqb y y refl) (and-false (p y))

bump-here : (a b : ℕ) (p q : Bool) → a ≡ b → p ≡ true → q ≡ false → a + cond p 1 0 ≡ suc (b + cond q 1 0)
bump-here a b p q e f g = rw (e, f, g) (omega arith)

bump-past : (a b : ℕ) (p q : Bool) → a ≡ suc b → p ≡ q → a + cond p 1 0 ≡ suc (b + cond q 1 0)
bump-past a b p q e f = rw (e, f) (suc-add b (cond q 1 0))

count-without : (p : ℕ → Bool) (n y : ℕ) → y < n → p y ≡ true → count p n ≡ suc (count (without p y) n)
unfolding count
count-without p zero y h e = absurd (not-suc-le-zero h)
count-without p (suc n) y h e = go (λ l. count-without p n y l e) (eq-or-lt_of_le (le_of_suc-le-suc h))
  where
    same : (y ≡ n) → count p n + cond (p n) 1 0 ≡ suc (count (without p y) n + cond (without p y n) 1 0)
    same q =
        let t : p n ≡ true = ap p (sym q) ∙ e in
        let z : without p y n ≡ false = ap (without p y) (sym q) ∙ gone p y in
        let c : count p n ≡ count (without p y) n = count-cong p (without p y) n (λ i l. sym (kept p y i (λ r. lt_irrefl n (let w : i ≡ n = r ∙ q in omega arith)))) in
        bump-here (count p n) (count (without p y) n) (p n) (without p y n) c t z

    less : count p n ≡ suc (count (without p y) n) → y < n → count p n + cond (p n) 1 0 ≡ suc (count (without p y) n + cond (without p y n) 1 0)
    less r l =
        let z : without p y n ≡ p n = kept p y n (λ q. lt_irrefl n (omega arith)) in
        bump-past (count p n) (count (without p y) n) (p n) (without p y n) r (sym z)

    go : (y < n → count p n ≡ suc (count (without p y) n)) → (y ≡ n) ⊎ (y < n) → count p n + cond (p n) 1 0 ≡ suc (count (without p y) n + cond (without p y n) 1 0)
    go r s = ⊎_elim same (λ l. less (r l) l) s

-- m different places of the test below n: at least m are counted
pub inj-count : (p : ℕ → Bool) (n m : ℕ) (f : ℕ → ℕ) → ((j : ℕ) → j < m → f j < n) → ((j : ℕ) → j < m → p (f j) ≡ true) → ((i j : ℕ) → i < j → j < m → f i ≡ f j → ⊥) → m ≤ count p n
inj-count p n zero f lt h inj = zero-le
inj-count p n (suc m) f lt h inj =
    let e = count-without p n (f m) (lt m (omega arith)) (h m (omega arith)) in
    let w = inj-count (without p (f m)) n m f (λ j l. lt j (omega arith)) (λ j l. kept p (f m) (f j) (inj j m l (omega arith)) ∙ h j (omega arith)) (λ i j a b. inj i j a (omega arith)) in
    omega arith

-- where just m are counted, m different places are all of them
pub inj-all : (p : ℕ → Bool) (n : ℕ) (f : ℕ → ℕ) → ((j : ℕ) → j < count p n → f j < n) → ((j : ℕ) → j < count p n → p (f j) ≡ true) → ((i j : ℕ) → i < j → j < count p n → f i ≡ f j → ⊥) →
    (c : ℕ) → c < n → p c ≡ true → ((j : ℕ) → j < count p n → f j ≡ c → ⊥) → ⊥
inj-all p n f lt h inj c l e far =
    let w = count-without p n c l e in
    let z = inj-count (without p c) n (count p n) f lt (λ j b. kept p c (f j) (far j b) ∙ h j b) inj in
    lt_irrefl (count p n) (omega arith)

-- ---- ranks: the count below a place tells the places of the test apart
pub count-mono : (p : ℕ → Bool) (a n : ℕ) → a ≤ n → count p a ≤ count p n
unfolding count
count-mono p a n h = le_ind (λ m. count p a ≤ count p m) (le_refl (count p a)) (λ m k e. omega arith) n h

pub count-suc : (p : ℕ → Bool) (a : ℕ) → p a ≡ true → count p (suc a) ≡ suc (count p a)
unfolding count
count-suc p a e = rw e (omega arith)

pub count-lt : (p : ℕ → Bool) (a n : ℕ) → p a ≡ true → a < n → count p a < count p n
count-lt p a n e h = let w = count-mono p (suc a) n h in let z = count-suc p a e in omega arith

pub count-inj : (p : ℕ → Bool) (a b : ℕ) → p a ≡ true → p b ≡ true → count p a ≡ count p b → a ≡ b
count-inj p a b ea eb e =
    le_antisymm
    (le_of_suc-le-suc (lt_of_not-le (λ h. lt_irrefl (count p a) (let w = count-lt p b a eb h in omega arith))))
    (le_of_suc-le-suc (lt_of_not-le (λ h. lt_irrefl (count p a) (let w = count-lt p a b ea h in omega arith))))

-- ---- what passes p is carried into what passes q without a meeting: there are no more of the first
pub count-into : (p : ℕ → Bool) (m n : ℕ) (f : ℕ → ℕ) (q : ℕ → Bool) → ((c : ℕ) → c < m → p c ≡ true → (f c < n) × (q (f c) ≡ true)) → ((c d : ℕ) → c < d → d < m → p c ≡ true → p d ≡ true → f c ≡ f d → ⊥) → count p m ≤ count q n
unfolding count
count-into p zero n f q h i = zero-le
count-into p (suc m) n f q h i = go (p m) refl (λ q' g. count-into p m n f q' g (λ c d a b s t. i c d a (omega arith) s t))
  where
    go : (b : Bool) → p m ≡ b → ((q' : ℕ → Bool) → ((c : ℕ) → c < m → p c ≡ true → (f c < n) × (q' (f c) ≡ true)) → count p m ≤ count q' n) → count p m + cond b 1 0 ≤ count q n
    go true e r =
        let l = h m (omega arith) e in
        let z = count-without q n (f m) l.0 l.1 in
        let y = r (without q (f m)) (λ c a t. ((h c (omega arith) t).0, kept q (f m) (f c) (i c m a (omega arith) t e) ∙ (h c (omega arith) t).1)) in
        omega arith
    go false e r = let y = r q (λ c a t. h c (omega arith) t) in omega arith

pub count-all : (n : ℕ) → count (λ i. true) n ≡ n
unfolding count
count-all zero = refl
count-all (suc n) = let e = count-all n in omega arith

pub count-not : (p : ℕ → Bool) (n : ℕ) → count p n + count (λ c. not (p c)) n ≡ n
unfolding count
count-not p zero = omega arith
count-not p (suc n) = go (p n) (count-not p n)
  where
    go : (b : Bool) → count p n + count (λ c. not (p c)) n ≡ n → (count p n + cond b 1 0) + (count (λ c. not (p c)) n + cond (not b) 1 0) ≡ suc n
    go true e = omega arith
    go false e = omega arith

-- ---- a test that holds at one place at most
pub count_add : (p : ℕ → Bool) (a b : ℕ) → count p (a + b) ≡ count p a + count (λ i. p (a + i)) b
unfolding count
count_add p a zero = rw (add-zero a) (sym (add-zero (count p a)))
count_add p a (suc b) = rw (add-suc a b, count_add p a b) (add_assoc (count p a) (count (λ i. p (a + i)) b) (cond (p (a + b)) 1 0))

count-one : (p : ℕ → Bool) → count p 1 ≡ cond (p 0) 1 0
unfolding count
count-one p = zero-add (cond (p 0) 1 0)

module _ (p : ℕ → Bool) (n : ℕ) (one : (i j : ℕ) → i < j → j < n → p i ≡ true → p j ≡ true → ⊥) where
  off : (b : Bool) → (b ≡ true → ⊥) → b ≡ false
  off true f = absurd (f refl)
  off false f = refl

  at : (r d : ℕ) → r + suc d ≡ n → p r ≡ true → ((i : ℕ) → i < r → p i ≡ false) → count p n ≡ 1
  at r d e h b =
      let s : r + (1 + d) ≡ n = omega arith in
      ap (count p) (sym s) ∙ count_add p r (1 + d) ∙
      rw (
        no-count p r b,
        count_add (λ i. p (r + i)) 1 d,
        count-one (λ i. p (r + i)),
        add-zero r,
        h,
        no-count (λ i. p (r + (1 + i))) d (λ i l. off _ (λ q. one r (r + (1 + i)) (omega arith) (omega arith) h q)),
      )

  pub count-any : count p n ≡ cond (any p n) 1 0
  count-any = ⊎_elim
      (λ e. rw (le-ltb (first p n) n (le_of_eq (sym e))) (no-count p n (nowhere p n (le_of_eq (sym e)))))
      (λ l. rw (lt-ltb (first p n) n l) (at (first p n) (n - first p n - 1) (omega arith) ((first-is p n).holds l) (first-is p n).below))
      (eq-or-lt_of_le (first-is p n).within)
