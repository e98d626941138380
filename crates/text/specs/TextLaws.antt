-- Laws of written texts: none, one after another, how many bytes; and of the digits of a number. Assumes nothing.
use Rattle.std.specs.Prelude.{◌≡◌, refl, Bool, true, false, cond, List, [], ◌∷◌, ◌++◌, ℕ, zero, suc, ◌+◌, ◌-◌, ◌*◌, ◌/◌, ◌%◌, ◌^◌, ◌≤◌, ◌<◌, ltb, length, take, get_or}
use Rattle.std.proofs.Common.{sym, ap, ap₂, ◌∙◌, add-zero, pow-suc, mod-eq_of_lt, le_of_suc-le-suc, lt_of_not-le, add-one, arith, lt-ltb, le-ltb, length-append, take-suc}
use Rattle.std.proofs.Math.Nat.{one-le-pow, pow-le-pow_right}
use Rattle.std.proofs.lemmas.List.Edits.{sets}
use Rattle.std.proofs.Math.Seq.{length-sets}
use Rattle.slices.specs.Lists.{sets-append}
use Rattle.io.specs.Digits.{last_digits, IsDigitCount}
use Rattle.text.specs.Text.{decimal_in, decimal, Put}

-- nothing written
pub put-none : (at : ℕ) (t : List ℕ) → Put [] at t at t
put-none at t = record { end = sym (add-zero at); text = refl }

-- one text after another
pub put_then : {s s' : List ℕ} {at r r' : ℕ} {t t' t'' : List ℕ} → Put s at t r t' → Put s' r t' r' t'' → Put (s ++ s') at t r' t''
put_then {s} {s'} {at} {t = t} p q = record {
  end = omega (arith, length-append s s');
  text = q.text ∙ ap₂ (λ (l : List ℕ) (i : ℕ). sets l i s') p.text p.end ∙ sets-append t at s s';
}

-- the lent bytes stay as many
pub put-length : {s : List ℕ} {at r : ℕ} {t t' : List ℕ} → Put s at t r t' → length t' ≡ length t
put-length {s} {at} {t = t} p = ap length p.text ∙ length-sets t at s

-- two answers that it allows agree
pub put-once : {s : List ℕ} {at r r' : ℕ} {t t' t'' : List ℕ} → Put s at t r t' → Put s at t r' t'' → (r ≡ r') × (t' ≡ t'')
put-once p q = (p.end ∙ sym q.end, p.text ∙ sym q.text)

-- one byte of a run more
pub put-more : (run : List ℕ) (i : ℕ) {at r r' : ℕ} {t t' t'' : List ℕ} → i < length run
    → Put (take i run) at t r t' → Put (get_or run i 0 ∷ []) r t' r' t'' → Put (take (i + 1) run) at t r' t''
put-more run i h p q =
    let e : take (i + 1) run ≡ take i run ++ (get_or run i 0 ∷ []) = ap (λ (j : ℕ). take j run) (add-one i) ∙ take-suc run i 0 h in
    rw e (put_then p q)

-- two numbers spelled
zero-spelled : decimal 0 ≡ 48 ∷ []
unfolding decimal decimal_in
zero-spelled = refl

hundreds-spelled : decimal 120 ≡ 49 ∷ 50 ∷ 48 ∷ []
unfolding decimal decimal_in
hundreds-spelled = refl

tenth-below : (n p : ℕ) → n < p * 10 → n / 10 < p
tenth-below n p h = omega arith

tenth-above : (n p : ℕ) → p * 10 ≤ n → p ≤ n / 10
tenth-above n p h = omega arith

-- a digit alone, or one after others
one_more : (b : Bool) (a x m : ℕ) (l : List ℕ) → length l ≤ m → length (cond b (a ∷ []) (l ++ (x ∷ []))) ≤ suc m
one_more true a x m l h = omega arith
one_more false a x m l h = simp length-append (omega arith)

few-in : (k n : ℕ) → length (decimal_in k n) ≤ k
unfolding decimal_in
few-in zero n = omega arith
few-in (suc k) n = one_more (ltb n 10) (48 + n) (48 + n % 10) k (decimal_in k (n / 10)) (few-in k (n / 10))

-- a number of 64 bits has 20 digits at most
pub decimal-few : (n : ℕ) → length (decimal n) ≤ 20
unfolding decimal
decimal-few n = few-in 20 n

-- suc m digits, where n needs as many
spelled : (m k n : ℕ) → suc m ≤ k → n < 10 ^ suc m → (0 < m → 10 ^ m ≤ n) → last_digits 10 (suc m) n ≡ decimal_in k n
unfolding decimal_in
spelled m zero n g h l = absurd (omega arith)
spelled zero (suc k) n g h l = rw (mod-eq_of_lt h, lt-ltb n 10 h)
spelled (suc m) (suc k) n g h l =
    let t : 10 ^ m * 10 ≤ n = rw (pow-suc 10 m) at (l (omega arith)) in
    let one : 1 ≤ 10 ^ m = one-le-pow m 10 (omega arith) in
    let past : ltb n 10 ≡ false = le-ltb n 10 (omega arith) in
    let low : ltb (n % 10) 10 ≡ true = lt-ltb (n % 10) 10 (omega arith) in
    rw (past, low)
    (ap (λ (s : List ℕ). s ++ ((48 + n % 10) ∷ []))
    (spelled m k (n / 10) (omega arith) (tenth-below n (10 ^ suc m) (rw (pow-suc 10 (suc m)) at h)) (λ _. tenth-above n (10 ^ m) t)))

-- the fewest digits that hold a number of 64 bits are 20 at most
pub fewest-few : (n k : ℕ) → n < 18446744073709551616 → IsDigitCount 10 1 n k → k ≤ 20
fewest-few n k h f = le_of_suc-le-suc (lt_of_not-le (λ (over : 20 < k).
    let p : 10 ^ (k - 1) ≤ n = f.2 (omega arith) in
    let q : 10 ^ 20 ≤ 10 ^ (k - 1) = pow-le-pow_right {n = 10} (omega arith) {i = 20} (omega arith) in
    omega arith))

-- and they are its decimal text
pub fewest-decimal : (n k : ℕ) → n < 18446744073709551616 → IsDigitCount 10 1 n k → last_digits 10 k n ≡ decimal n
unfolding decimal
fewest-decimal n zero h f = absurd (omega arith)
fewest-decimal n (suc m) h f =
    let e : suc m - 1 ≡ m = omega arith in
    spelled m 20 n (fewest-few n (suc m) h f) f.1 (λ g. rw e at (f.2 (omega arith)))
