-- Laws of a call that lists the edges, refused by the table, refused for room, done, that no proof of its crate calls.
-- Assumes nothing.
use Rattle.std.specs.Prelude.{◌≡◌, refl, ℕ, ◌≤◌, ◌<◌, List, [], ◌∷◌, length, ltb, Float}
use Rattle.std.proofs.Common.{sym, ap, ◌∙◌, arith, not-suc-le-zero, lt-ltb, le-ltb}
use Rattle.std.proofs.Math.Seq.{sets}
use Rattle.slices.specs.First.{found, none}
use Rattle.slices.specs.Lists.{each, sets_over}
use Rattle.mesh.specs.Tests.{Test, verdict, tests, tests-good, verdict-append, and_then, accepted, refused as refuses, stop, pass, clear}
use Rattle.mesh.specs.Edges.{edges}
use Rattle.mesh.specs.Verdict.{Verdict, Good, Bad}
use Rattle.edges.specs.Listing.{Listing, Listed}
use Rattle.edges.specs.EdgeList.{edge_list, list_tests, Called, refused, result, called_of, listing, answer_of, list_after, rise, all-rise, length-list}

-- ---- the call: refused by the table, refused for room, done
module _ (o k : List ℕ) (x : List Float) (room : ℕ) where
  fits : Test
  fits = record { number = 13; holds = λ i. ltb room (length (edge_list o k)); places = 1 }

  by-table : (v : Verdict) → v ≡ and_then (verdict (tests o k x)) (verdict (fits ∷ [])) → called_of v (edge_list o k) ≡ listing o k x room
  unfolding listing list_tests fits
  by-table v e = ap (λ (w : Verdict). called_of w (edge_list o k)) (e ∙ sym (verdict-append (tests o k x) (fits ∷ [])))

  pub listing-bad : (v : Verdict) {n p : ℕ} → v ≡ verdict (tests o k x) → v ≡ Bad n p → refused n p ≡ listing o k x room
  listing-bad v {n} {p} e f = by-table (Bad n p) (refuses (Bad n p) (verdict (tests o k x)) (verdict (fits ∷ [])) refl (sym f ∙ e))

  module _ (g : verdict (tests o k x) ≡ Good) (m : ℕ) (e : m ≡ edges o k) where
    long : length (edge_list o k) ≡ m
    long = length-list o k (tests-good o k x g).1.1 ∙ sym e

    pub listing-tight : room < m → refused 13 0 ≡ listing o k x room
    unfolding fits
    listing-tight h = by-table (Bad 13 0) (accepted (Bad 13 0) (verdict (tests o k x)) (verdict (fits ∷ [])) g
        (stop fits [] 0 (found fits.holds 1 0 (omega arith) (λ i l. absurd (not-suc-le-zero l)) (lt-ltb room (length (edge_list o k)) (rw long h))) (omega arith)))

    pub listing-done : m ≤ room → result (edge_list o k) ≡ listing o k x room
    unfolding fits
    listing-done h = by-table Good (accepted Good (verdict (tests o k x)) (verdict (fits ∷ [])) g
        (pass fits [] 1 (none fits.holds 1 (λ i l. le-ltb room (length (edge_list o k)) (rw long h))) (omega arith) clear))

-- what a caller sees
pub came : (q : Called) (r : Listing) (old new : List (List ℕ)) (p : Called) → p ≡ q → r ≡ answer_of p → new ≡ list_after p old → (r ≡ answer_of q) × (new ≡ list_after q old)
came q r old new p e f g = (f ∙ ap answer_of e, g ∙ ap (λ (z : Called). list_after z old) e)

pub came-done :
    (o k : List ℕ) (x : List Float) (old new : List (List ℕ)) (m r : ℕ) → verdict (tests o k x) ≡ Good → m ≡ edges o k → m ≤ length old →
    r ≡ m → new ≡ sets old 0 (each (rise o k) (length k)) → (Listed r ≡ answer_of (listing o k x (length old))) × (new ≡ list_after (listing o k x (length old)) old)
came-done o k x old new m r g e h q s =
    let t = (tests-good o k x g).1.1 in
    let l : length (edge_list o k) ≡ m = length-list o k t ∙ sym e in
    came (listing o k x (length old)) (Listed r) old new (result (edge_list o k)) (listing-done o k x (length old) g m e h)
    (ap Listed (q ∙ sym l))
    (s ∙ ap (sets old 0) (sym (all-rise o k t)) ∙ sets_over old (edge_list o k) (omega arith))
