-- The edge list: its definition, what a call that lists the edges comes to, and the laws of the loop that writes it.
-- Assumes nothing.
use Rattle.std.specs.Prelude.{Ok, Err}
use Prim.Native.Nat.{ℕ, zero, suc, ◌+◌, ◌*◌, ◌≤◌, ◌<◌}
use Rattle.std.specs.Prelude.{◌≡◌, Bool, true, false, not, ◌&&◌, set, ltb, Float}
use Rattle.std.proofs.Math.Path.{refl, sym, ap, ap₂}
use Rattle.std.proofs.Common.{◌∙◌, add-zero, add-one}
use Rattle.std.proofs.Math.Bool.{cond}
use mathlib.Core.List.{List, [], ◌∷◌, ◌++◌}
use native.Mathlib.Omega.{arith}
use Rattle.std.proofs.Math.Nat.{zero-add}
use Rattle.std.proofs.Math.ListN.{length}
use Rattle.std.proofs.Math.Seq.{sets}
use Rattle.slices.specs.First.{first, count, nowhere}
use Rattle.slices.specs.Lists.{each, over, each_more, length-where, sets-append, sets_over}
use Rattle.mesh.specs.Mesh.{window}
use Rattle.mesh.specs.Tests.{Test, met, verdict, tests, edge_tests, passed, tests-good, verdict-append, and_then}
use Rattle.mesh.specs.Edges.{up, edges}
use Rattle.mesh.specs.Count.{count-mono}
use Rattle.mesh.specs.Verdict.{Verdict, Good, Bad}
use Rattle.edges.specs.Listing.{Listing, Listed, Refused}

-- the windows that ascend, in the order of the corners (so a face's closing one comes last), each where it is first met
unfoldable pub edge_list : List ℕ → List ℕ → List (List ℕ)
edge_list o k = each (λ c. cond (up o k c && not (met o k c)) (window o k c ∷ []) []) (length k)

-- the table of a call that lists the edges into a list of `room` places: 13 at 0 where they do not fit
unfoldable pub list_tests : List ℕ → List ℕ → List Float → ℕ → List Test
list_tests o k x room = tests o k x ++ (record { number = 13; holds = λ i. ltb room (length (edge_list o k)); places = 1 } ∷ [])

-- what the call comes to: a number and a place, or the list
pub data Called : Type 0 where
  refused : ℕ → ℕ → Called
  result : List (List ℕ) → Called

abbrev pub called_of : Verdict → List (List ℕ) → Called
called_of (Ok _) es = result es
called_of (Err r) es = refused r.number r.place

unfoldable pub listing : List ℕ → List ℕ → List Float → ℕ → Called
listing o k x room = called_of (verdict (list_tests o k x room)) (edge_list o k)

-- its answer, and what it leaves in the lent list
abbrev pub answer_of : Called → Listing
answer_of (refused n p) = Refused n p
answer_of (result es) = Listed (length es)

abbrev pub list_after : Called → List (List ℕ) → List (List ℕ)
list_after (refused n p) old = old
list_after (result es) old = over es old

-- ---- laws

-- the window of c where it ascends
abbrev pub rise : List ℕ → List ℕ → ℕ → List (List ℕ)
rise o k c = cond (up o k c) (window o k c ∷ []) []

first-met : (a b : Bool) (e : List ℕ) → b ≡ false → cond (a && not b) (e ∷ []) [] ≡ cond a (e ∷ []) []
first-met true b e h = rw h
first-met false b e h = refl

module _ (o k : List ℕ) where
  -- where no window is met before (8), the list is all that ascend
  upto : ((c : ℕ) → c < length k → met o k c ≡ false) → (n : ℕ) → n ≤ length k → each (λ c. cond (up o k c && not (met o k c)) (window o k c ∷ []) []) n ≡ each (rise o k) n
  unfolding each
  upto h zero l = refl
  upto h (suc n) l = ap₂ (λ (a b : List (List ℕ)). a ++ b) (upto h n (omega arith)) (first-met (up o k n) (met o k n) (window o k n) (h n (omega arith)))

  pub all-rise : verdict (edge_tests o k) ≡ Good → edge_list o k ≡ each (rise o k) (length k)
  unfolding edge_list edge_tests
  all-rise e = upto (nowhere (met o k) (length k) (passed _ _ e).0) (length k) (omega arith)

  long-one : (c : ℕ) → length (rise o k c) ≡ 1 * cond (up o k c) 1 0
  long-one c = go (up o k c)
    where
      go : (b : Bool) → length (cond b (window o k c ∷ []) []) ≡ 1 * cond b 1 0
      go true = refl
      go false = refl

  pub length-rise : (n : ℕ) → length (each (rise o k) n) ≡ count (up o k) n
  length-rise n = let e = length-where (rise o k) (up o k) 1 n long-one in omega arith

  pub length-list : verdict (edge_tests o k) ≡ Good → length (edge_list o k) ≡ edges o k
  length-list e = ap length (all-rise e) ∙ length-rise (length k)

  -- one corner: what is stored of it
  pub rise-fits : (c m n : ℕ) → up o k c ≡ true → m + length (rise o k c) ≤ n → m < n
  rise-fits c m n u h = let l : length (rise o k c) ≡ 1 = rw u refl in omega arith

  pub rise-yes : (c m : ℕ) (old : List (List ℕ)) (e : List ℕ) → up o k c ≡ true → e ≡ window o k c → (m + 1 ≡ m + length (rise o k c)) × (set old m e ≡ sets old m (rise o k c))
  rise-yes c m old e u q = rw (u, q) (refl, refl)

  pub rise-no : (c m : ℕ) (old : List (List ℕ)) → up o k c ≡ false → (m ≡ m + length (rise o k c)) × (old ≡ sets old m (rise o k c))
  rise-no c m old u = rw u (sym (add-zero m), refl)

  -- the loop over the corners
  pub rise-room : (c m n : ℕ) → c < length k → m ≡ count (up o k) c → edges o k ≤ n → m + length (rise o k c) ≤ n
  unfolding count
  rise-room c m n h e l =
      let w = count-mono (up o k) (suc c) (length k) h in
      let z = long-one c in
      omega arith

  pub rise-more :
      (old out out' : List (List ℕ)) (c m m' : ℕ) → m ≡ count (up o k) c → out ≡ sets old 0 (each (rise o k) c) → m' ≡ m + length (rise o k c) → out' ≡ sets out m (rise o k c) →
      (m' ≡ count (up o k) (c + 1)) × (out' ≡ sets old 0 (each (rise o k) (c + 1)))
  unfolding count
  rise-more old out out' c m m' e q e' q' =
      let z = long-one c in
      let l : 0 + length (each (rise o k) c) ≡ m = zero-add _ ∙ length-rise c ∙ sym e in
      let n : count (up o k) (c + 1) ≡ count (up o k) c + cond (up o k c) 1 0 = ap (count (up o k)) (add-one c) in (
        omega arith,
        q' ∙ ap₂ (λ (t : List (List ℕ)) (i : ℕ). sets t i (rise o k c)) q (sym l) ∙ sets-append old 0 (each (rise o k) c) (rise o k c) ∙ ap (sets old 0) (sym (each_more (rise o k) c)),
      )

-- ---- the call: refused by the table, refused for room, done
room_row : (b : Bool) → verdict (record { number = 13; holds = λ i. b; places = 1 } ∷ []) ≡ cond b (Bad 13 0) Good
unfolding verdict first
room_row true = refl
room_row false = refl

module _ (o k : List ℕ) (x : List Float) where
  pub length_listed : Good ≡ verdict (tests o k x) → length (edge_list o k) ≡ edges o k
  length_listed e = length-list o k (tests-good o k x (sym e)).1.1

  pub over_listed : Good ≡ verdict (tests o k x) → (old : List (List ℕ)) → edges o k ≤ length old → sets old 0 (each (rise o k) (length k)) ≡ over (edge_list o k) old
  over_listed e old h =
      let l = length_listed e in
      ap (sets old 0) (sym (all-rise o k (tests-good o k x (sym e)).1.1)) ∙ sets_over old (edge_list o k) (omega arith)

  -- by the table, and then by the number of edges
  pub listing_is : (room : ℕ) → listing o k x room ≡ called_of (and_then (verdict (tests o k x)) (cond (ltb room (edges o k)) (Bad 13 0) Good)) (edge_list o k)
  unfolding listing list_tests
  listing_is room =
      ap (λ (v : Verdict). called_of v (edge_list o k))
      (verdict-append (tests o k x) (record { number = 13; holds = λ i. ltb room (length (edge_list o k)); places = 1 } ∷ [])
      ∙ ap (and_then (verdict (tests o k x))) (room_row (ltb room (length (edge_list o k))))
      ∙ go (verdict (tests o k x)) length_listed)
    where
      go : (v : Verdict) → (Good ≡ v → length (edge_list o k) ≡ edges o k) → and_then v (cond (ltb room (length (edge_list o k))) (Bad 13 0) Good) ≡ and_then v (cond (ltb room (edges o k)) (Bad 13 0) Good)
      go (Ok _) h = ap (λ (n : ℕ). cond (ltb room n) (Bad 13 0) Good) (h refl)
      go (Err r) h = refl
