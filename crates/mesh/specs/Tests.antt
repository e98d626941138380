-- The refusal table: a test has its number, a test of a place, and how many places there are.
-- Assumes nothing.
use Rattle.std.specs.Prelude.{Option, Some, None, IfSome, Ok, Err, ◌^◌, ℕ, zero, suc, ◌+◌, ◌-◌, ◌/◌, ◌%◌, ◌≤◌, ◌<◌, ◌≡◌, refl, Bool, true, false, cond, not, ◌||◌, List, [], ◌∷◌, ◌++◌, length, get_or, ltb, leb, eqb, Float}
use Rattle.std.proofs.Common.{sym, ◌∙◌, ap, arith, le_of_eq, lt-ltb, le-ltb, ltb-false}
use Rattle.point.specs.Finite.{not_finite}
use Rattle.slices.specs.First.{first, any, count, is_at, lowest as lowest_below, found_at, found_none}
use Rattle.mesh.specs.Mesh.{faces, start, end, arity, run, window, window_is, mate, around}
use Rattle.mesh.specs.declared.Refusal.{Refusal}
use Rattle.mesh.specs.Verdict.{Verdict, Good, Bad, refused_at}

pub record Test : Type 0 where
  pub number : ℕ
  pub holds : ℕ → Bool
  pub places : ℕ

-- the first test that holds, at the lowest place where it does
unfoldable pub verdict : List Test → Verdict
verdict [] = Good
verdict (r ∷ rs) = cond (any r.holds r.places) (Bad r.number (first r.holds r.places)) (verdict rs)

-- the number and the place handed back: 0 and 0 where nothing is refused
abbrev pub number_of : Verdict → ℕ
number_of (Ok _) = 0
number_of (Err r) = r.number

abbrev pub place_of : Verdict → ℕ
place_of (Ok _) = 0
place_of (Err r) = r.place

-- ---- the tests

-- 1: offsets have at least one entry, the first 0, none smaller than the one before, the last the number of corners
abbrev pub falls : List ℕ → ℕ → Bool
falls o i = ltb (end o i) (start o i)

unfoldable pub wrong_offsets : List ℕ → ℕ → Bool
wrong_offsets o n = eqb (length o) 0 || not (eqb (start o 0) 0) || any (falls o) (faces o) || not (eqb (start o (faces o)) n)

unfoldable pub wrong_shape : List ℕ → ℕ → ℕ → ℕ → Bool
wrong_shape o n m zero = wrong_offsets o n
wrong_shape o n m (suc i) = not (eqb (m % 3) 0)

-- 2: faces, corners, positions
abbrev pub limit : ℕ
limit = 60000

unfoldable pub too_many : ℕ → ℕ → ℕ → ℕ → Bool
too_many f n m zero = ltb limit f
too_many f n m (suc zero) = ltb limit n
too_many f n m (suc (suc i)) = ltb limit (m / 3)

-- 5
abbrev pub short : List ℕ → ℕ → Bool
short o f = ltb (arity o f) 3

-- 6
abbrev pub outside : List ℕ → ℕ → ℕ → Bool
outside k v c = leb v (get_or k c 0)

-- 7
abbrev pub seen : List ℕ → ℕ → Bool
seen l i = any (is_at l (get_or l i 0)) i

abbrev pub repeats : List ℕ → List ℕ → ℕ → Bool
repeats o k f = any (seen (run o k f)) (length (run o k f))

-- 8 and 9
abbrev pub met : List ℕ → List ℕ → ℕ → Bool
met o k c = any (window_is o k (window o k c)) c

abbrev pub alone : List ℕ → List ℕ → ℕ → Bool
alone o k c = not (ltb (mate o k c) (length k))

-- 10: a face has a vertex once (7), so its faces are its corners
abbrev pub faces_at : List ℕ → ℕ → ℕ
faces_at k v = count (is_at k v) (length k)

abbrev pub few : List ℕ → ℕ → Bool
few k v = ltb (faces_at k v) 3

-- 11: going round from the lowest corner of the vertex one is back before all its corners are met
abbrev pub lowest : List ℕ → ℕ → ℕ
lowest k v = first (is_at k v) (length k)

abbrev pub back : List ℕ → List ℕ → ℕ → ℕ → Bool
back o k c j = eqb (around o k c (j + 1)) c

abbrev pub split : List ℕ → List ℕ → ℕ → Bool
split o k v = any (back o k (lowest k v)) (faces_at k v - 1)

-- ---- the table

-- by groups: every operator asks 1 and 2, then its own numbers (3), then 4 to 7; then those that need a closed surface 8 and 9
unfoldable pub size_tests : List ℕ → ℕ → ℕ → List Test
size_tests o n m =
    record { number = 1; holds = wrong_shape o n m; places = 2 } ∷
    record { number = 2; holds = too_many (faces o) n m; places = 3 } ∷
    []

unfoldable pub face_tests : List ℕ → List ℕ → List Float → List Test
face_tests o k x =
    record { number = 4; holds = not_finite x; places = length x } ∷
    record { number = 5; holds = short o; places = faces o } ∷
    record { number = 6; holds = outside k (length x / 3); places = length k } ∷
    record { number = 7; holds = repeats o k; places = faces o } ∷
    []

unfoldable pub edge_tests : List ℕ → List ℕ → List Test
edge_tests o k =
    record { number = 8; holds = met o k; places = length k } ∷
    record { number = 9; holds = alone o k; places = length k } ∷
    []

unfoldable pub round_tests : List ℕ → List ℕ → ℕ → List Test
round_tests o k v =
    record { number = 10; holds = few k; places = v } ∷
    record { number = 11; holds = split o k; places = v } ∷
    []

unfoldable pub tests : List ℕ → List ℕ → List Float → List Test
tests o k x = size_tests o (length k) (length x) ++ (face_tests o k x ++ edge_tests o k)

-- ---- a run through the table: a test that is passed, one that refuses, and the end
pub pass : (r : Test) (rs : List Test) (a : ℕ) {v : Verdict} → a ≡ first r.holds r.places → r.places ≤ a → v ≡ verdict rs → v ≡ verdict (r ∷ rs)
unfolding verdict
pass r rs a e h v = v ∙ sym (ap (λ b. cond b (Bad r.number (first r.holds r.places)) (verdict rs)) (le-ltb _ _ (rw e at h)))

pub stop : (r : Test) (rs : List Test) (a : ℕ) → a ≡ first r.holds r.places → a < r.places → Bad r.number a ≡ verdict (r ∷ rs)
unfolding verdict
stop r rs a e h = rw (← e) (sym (ap (λ b. cond b (Bad r.number a) (verdict rs)) (lt-ltb _ _ h)))

pub clear : Good ≡ verdict []
unfolding verdict
clear = refl

-- the same by what a search found: a row that refuses, one that does not, the last row
pub passes : (r : Test) (rs : List Test) (o : Option ℕ) {v : Verdict} → o ≡ lowest_below r.holds r.places → Good ≡ refused_at r.number o → v ≡ verdict rs → v ≡ verdict (r ∷ rs)
passes r rs None e g v = let f = found_none e refl in pass r rs r.places f.first (le_of_eq refl) v
passes r rs (Some a) e g v = cc

pub refuses : (r : Test) (rs : List Test) (o : Option ℕ) {e : Refusal} → o ≡ lowest_below r.holds r.places → Err e ≡ refused_at r.number o → Err e ≡ verdict (r ∷ rs)
refuses r rs None e g = cc
refuses r rs (Some a) e g = let f = found_at e refl in g ∙ stop r rs a f.first f.within

pub ends : (r : Test) (o : Option ℕ) → o ≡ lowest_below r.holds r.places → refused_at r.number o ≡ verdict (r ∷ [])
ends r None e = passes r [] None e refl clear
ends r (Some a) e = refuses r [] (Some a) e refl

-- the place of a row fits 32 bits
pub row_fits : (p : ℕ → Bool) (m : ℕ) → m ≤ 2 ^ 32 → IfSome (lowest_below p m) (λ place. place < 2 ^ 32)
row_fits p m h = go (lowest_below p m) refl
  where
    go : (o : Option ℕ) → o ≡ lowest_below p m → IfSome o (λ place. place < 2 ^ 32)
    go None e = tt
    go (Some a) e = let w = (found_at e refl).within in let z : a < 2 ^ 32 = omega arith in z

-- a row that does not refuse: its test holds nowhere
pub cleared : (p : ℕ → Bool) (m n : ℕ) (o : Option ℕ) → o ≡ lowest_below p m → Good ≡ refused_at n o → m ≤ first p m
cleared p m n None e g = le_of_eq (found_none e refl).first
cleared p m n (Some a) e g = cc

-- ---- groups of tests one after the other
abbrev pub and_then : Verdict → Verdict → Verdict
and_then (Ok _) w = w
and_then (Err r) w = Bad r.number r.place

choose : (b : Bool) (n p : ℕ) (u v w : Verdict) → u ≡ and_then v w → cond b (Bad n p) u ≡ and_then (cond b (Bad n p) v) w
choose true n p u v w e = refl
choose false n p u v w e = e

pub verdict-append : (rs ss : List Test) → verdict (rs ++ ss) ≡ and_then (verdict rs) (verdict ss)
unfolding verdict
verdict-append [] ss = refl
verdict-append (r ∷ rs) ss = choose (any r.holds r.places) r.number (first r.holds r.places) (verdict (rs ++ ss)) (verdict rs) (verdict ss) (verdict-append rs ss)

-- no refusal: each test holds nowhere
after : (b : Bool) (n p : ℕ) (v : Verdict) → cond b (Bad n p) v ≡ Good → (b ≡ false) × (v ≡ Good)
after true n p v e = absurd (let z : ◌≡◌ {A = ℕ} 0 1 = cc in omega arith)
after false n p v e = (refl, e)

pub passed : (r : Test) (rs : List Test) → verdict (r ∷ rs) ≡ Good → (r.places ≤ first r.holds r.places) × (verdict rs ≡ Good)
unfolding verdict
passed r rs e =
    let w = after (any r.holds r.places) r.number (first r.holds r.places) (verdict rs) e in
    (ltb-false _ _ w.0, w.1)

-- a row and the rest, by what the search for the row's place finds
pub verdict_more : (r : Test) (rs : List Test) → verdict (r ∷ rs) ≡ and_then (refused_at r.number (lowest_below r.holds r.places)) (verdict rs)
unfolding verdict lowest_below
verdict_more r rs = go (any r.holds r.places)
  where
    go : (b : Bool) → cond b (Bad r.number (first r.holds r.places)) (verdict rs) ≡ and_then (refused_at r.number (cond b (Some (first r.holds r.places)) None)) (verdict rs)
    go true = refl
    go false = refl

pub ruleset rows = (verdict_more, clear, row_fits)

-- the table by its groups
pub by-groups : (o k : List ℕ) (x : List Float) → verdict (tests o k x) ≡ and_then (verdict (size_tests o (length k) (length x))) (and_then (verdict (face_tests o k x)) (verdict (edge_tests o k)))
unfolding tests
by-groups o k x = rw (verdict-append (size_tests o (length k) (length x)), verdict-append (face_tests o k x))

-- a group that refuses answers for all; one that does not leaves the answer to the rest
pub refused : (u v w : Verdict) {n p : ℕ} → u ≡ Bad n p → u ≡ v → u ≡ and_then v w
refused u v w {n} {p} e f = let q : v ≡ Bad n p = cc in rw q e

pub accepted : (u v w : Verdict) → v ≡ Good → u ≡ w → u ≡ and_then v w
accepted u v w e f = rw e f

-- the whole table with 10 and 11, as ambo and dual ask it
unfoldable pub full_tests : List ℕ → List ℕ → List Float → List Test
full_tests o k x = tests o k x ++ round_tests o k (length x / 3)

pub full-by-groups : (o k : List ℕ) (x : List Float) → verdict (full_tests o k x) ≡ and_then (verdict (tests o k x)) (verdict (round_tests o k (length x / 3)))
unfolding full_tests
full-by-groups o k x = verdict-append (tests o k x) (round_tests o k (length x / 3))

pub ruleset groups = (by-groups, full-by-groups)

pub both-good : (v w : Verdict) → and_then v w ≡ Good → (v ≡ Good) × (w ≡ Good)
both-good (Ok _) w e = (refl, e)
both-good (Err r) w e = absurd (let z : ◌≡◌ {A = ℕ} 0 1 = cc in omega arith)

pub tests-good : (o k : List ℕ) (x : List Float) → verdict (tests o k x) ≡ Good → (verdict (size_tests o (length k) (length x)) ≡ Good) × ((verdict (face_tests o k x) ≡ Good) × (verdict (edge_tests o k) ≡ Good))
tests-good o k x e =
    let w = both-good (verdict (size_tests o (length k) (length x))) (and_then (verdict (face_tests o k x)) (verdict (edge_tests o k))) (sym (by-groups o k x) ∙ e) in
    (w.0, both-good (verdict (face_tests o k x)) (verdict (edge_tests o k)) w.1)
