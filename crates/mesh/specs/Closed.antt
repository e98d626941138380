-- What tests 8 and 9 mean: no two corners have one directed edge, and each has one that is its reverse. Both directions, and the laws of mates.
-- Assumes nothing.
use Rattle.std.specs.Prelude.{ℕ, ◌<◌, ◌≡◌, true, false, List, eqb, Float}
use Rattle.std.proofs.Math.Path.{sym, ap}
use Rattle.std.proofs.Common.{◌∙◌, arith, le_refl, le_of_suc-le-suc, lt_of_not-le}
use Rattle.std.proofs.Math.Bool.{not, true≢false}
use Rattle.std.proofs.Math.Nat.{le_antisymm, lt_of_le_of_lt}
use Rattle.std.proofs.Math.ListN.{length, get_or}
use borrow.Author.Tests.{lt-ltb, ltb-true, ltb-false, eqb-true, eq-eqb, not-false}
use Rattle.slices.specs.First.{first-is, none, nowhere, not-any, at-or-before, both}
use Rattle.mesh.specs.Mesh.{faces, next, prev, window, window_is, mate, turn, pair_of, turned_of}
use Rattle.mesh.specs.Tests.{alone, met, repeats, verdict, tests, face_tests, edge_tests, passed, pass, clear, tests-good}
use Rattle.mesh.specs.Shape.{Shaped, Full, size-good, passed-short}
use Rattle.mesh.specs.Corners.{next-prev, prev-lt}
use Rattle.mesh.specs.Verdict.{Good}

-- ---- a window by its two numbers
abbrev pub from : List ℕ → List ℕ → ℕ → ℕ
from o k c = get_or k c 0

abbrev pub to : List ℕ → List ℕ → ℕ → ℕ
to o k c = get_or k (next o c) 0

pub is-window : (o k : List ℕ) (a b c : ℕ) → window_is o k (pair_of a b) c ≡ true → (from o k c ≡ a) × (to o k c ≡ b)
unfolding window
is-window o k a b c e = let w = both (eqb (from o k c) a) (eqb (to o k c) b) e in (eqb-true _ _ w.0, eqb-true _ _ w.1)

pub window-is : (o k : List ℕ) (a b c : ℕ) → from o k c ≡ a → to o k c ≡ b → window_is o k (pair_of a b) c ≡ true
unfolding window
window-is o k a b c p q = rw (eq-eqb _ _ p, eq-eqb _ _ q)

-- ---- closed
pub record Closed (o k : List ℕ) : Type 0 where
  pub once : (c d : ℕ) → c < length k → d < length k → from o k c ≡ from o k d → to o k c ≡ to o k d → c ≡ d
  pub other : ℕ → ℕ
  pub other-lt : (c : ℕ) → c < length k → other c < length k
  pub other_from : (c : ℕ) → c < length k → from o k (other c) ≡ to o k c
  pub other-to : (c : ℕ) → c < length k → to o k (other c) ≡ from o k c

module _ (o k : List ℕ) where
  -- the tests pass: closed
  earlier : ((d : ℕ) → d < length k → met o k d ≡ false) → (c d : ℕ) → d < length k → from o k c ≡ from o k d → to o k c ≡ to o k d → c < d → ⊥
  unfolding window
  earlier h c d l p q w =
      true≢false (sym (window-is o k (from o k d) (to o k d) c p q) ∙ nowhere (window_is o k (window o k d)) d (ltb-false _ _ (h d l)) c w)

  mate-is : ((c : ℕ) → c < length k → alone o k c ≡ false) → (c : ℕ) → c < length k → (mate o k c < length k) × ((from o k (mate o k c) ≡ to o k c) × (to o k (mate o k c) ≡ from o k c))
  unfolding mate window
  mate-is h c l =
      let w : mate o k c < length k = ltb-true _ _ (not-false _ (h c l)) in
      (w, is-window o k (to o k c) (from o k c) (mate o k c) ((first-is (window_is o k (turned_of (window o k c))) (length k)).holds w))

  pub good-closed : verdict (edge_tests o k) ≡ Good → Closed o k
  unfolding edge_tests
  good-closed e =
      let w = passed _ _ e in
      let h8 = nowhere (met o k) (length k) w.0 in
      let h9 = mate-is (nowhere (alone o k) (length k) (passed _ _ w.1).0) in
      record {
        once = λ c d l m p q. le_antisymm (le_of_suc-le-suc (lt_of_not-le (earlier h8 d c l (sym p) (sym q)))) (le_of_suc-le-suc (lt_of_not-le (earlier h8 c d m p q)));
        other = mate o k;
        other-lt = λ c l. (h9 c l).0;
        other_from = λ c l. (h9 c l).1.0;
        other-to = λ c l. (h9 c l).1.1;
      }

  -- closed: the tests pass
  module _ (w : Closed o k) where
    not-met : (c : ℕ) → c < length k → met o k c ≡ false
    unfolding window
    not-met c l = not-any (window_is o k (window o k c)) c (λ d h e.
        let q = is-window o k (from o k c) (to o k c) d e in
        let z : d ≡ c = w.once d c (omega arith) l q.0 q.1 in omega arith)

    has-mate : (c : ℕ) → c < length k → mate o k c < length k
    unfolding mate window
    has-mate c l =
        let h = w.other-lt c l in
        let m = at-or-before (window_is o k (turned_of (window o k c))) (length k) (w.other c) (window-is o k (to o k c) (from o k c) (w.other c) (w.other_from c l) (w.other-to c l)) in
        lt_of_le_of_lt m h

    pub closed-good : Good ≡ verdict (edge_tests o k)
    unfolding edge_tests
    closed-good =
        pass _ _ (length k) (none (met o k) (length k) not-met) (le_refl _)
        (pass _ _ (length k) (none (alone o k) (length k) (λ c l. ap not (lt-ltb _ _ (has-mate c l)))) (le_refl _) clear)

    -- a mate is as the record says, and the mate of a mate is the corner itself
    pub mate-other : (c : ℕ) → c < length k → mate o k c ≡ w.other c
    unfolding mate window
    mate-other c l =
        let h = has-mate c l in
        let q = is-window o k (to o k c) (from o k c) (mate o k c) ((first-is (window_is o k (turned_of (window o k c))) (length k)).holds h) in
        w.once _ _ h (w.other-lt c l) (q.0 ∙ sym (w.other_from c l)) (q.1 ∙ sym (w.other-to c l))

    pub mate-lt : (c : ℕ) → c < length k → mate o k c < length k
    mate-lt = has-mate

    pub mate-from : (c : ℕ) → c < length k → from o k (mate o k c) ≡ to o k c
    mate-from c l = rw (mate-other c l) (w.other_from c l)

    pub mate-to : (c : ℕ) → c < length k → to o k (mate o k c) ≡ from o k c
    mate-to c l = rw (mate-other c l) (w.other-to c l)

    pub mate-mate : (c : ℕ) → c < length k → mate o k (mate o k c) ≡ c
    mate-mate c l =
        let h = mate-lt c l in
        w.once _ _ (mate-lt _ h) l (mate-from _ h ∙ mate-to c l) (mate-to _ h ∙ mate-from c l)

    -- a turn stays at its vertex
    pub turn-from : Shaped o (length k) → (c : ℕ) → c < length k → from o k (turn o k c) ≡ from o k c
    unfolding turn
    turn-from s c l = mate-from (prev o c) (prev-lt o _ s c l) ∙ ap (λ d. get_or k d 0) (next-prev o _ s c l)

-- 8 and 9 pass exactly where the mesh is closed
pub exactly-closed : (o k : List ℕ) → (verdict (edge_tests o k) ≡ Good → Closed o k) × (Closed o k → verdict (edge_tests o k) ≡ Good)
exactly-closed o k = (good-closed o k, λ w. sym (closed-good o k w))

-- ---- what tests 1, 5, 7, 8 and 9 leave known: what a theorem about an operator's result starts from
pub record Surface (o k : List ℕ) : Type 0 where
  pub shaped : Shaped o (length k)
  pub full : Full o
  pub unlike : (f : ℕ) → f < faces o → repeats o k f ≡ false
  pub closed : Closed o k

pub surface : (o k : List ℕ) (x : List Float) → verdict (tests o k x) ≡ Good → Surface o k
unfolding face_tests
surface o k x e =
    let g = tests-good o k x e in
    let r5 = passed _ _ (passed _ _ g.1.0).1 in
    let r7 = passed _ _ (passed _ _ r5.1).1 in
    record {
      shaped = (size-good o (length k) (length x) g.0).0;
      full = passed-short o r5.0;
      unlike = nowhere (repeats o k) (faces o) r7.0;
      closed = good-closed o k g.1.1;
    }
